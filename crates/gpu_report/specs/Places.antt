-- The places of an object: its live blocks and free ranges.
use Rattle.std.specs.Prelude.{◌≡◌, ℕ, ◌+◌, ◌-◌, ◌==◌, List, [], ◌∷◌, ◌++◌, map, Some, None}
use Rattle.std.specs.List.{filter}
use Rattle.std.specs.List.Sorted.{IsPermutation, IsNonDecreasingBy}
use Rattle.gpu_alloc_types.specs.declared.types.FreeRange.{FreeRange}
use Rattle.gpu_report.specs.declared.live.LiveBlock.{LiveBlock}
use Rattle.gpu_report.specs.declared.report.Place.{Place}

-- a live block under its name
abbrev pub block_place : LiveBlock → Place
block_place b = record { block = Some b.name; offset = b.offset; size = b.size; asked = b.asked }

-- a free range, of which nothing was asked for
abbrev pub free_place : FreeRange → Place
free_place r = record { block = None; offset = r.start; size = r.end - r.start; asked = 0 }

-- the live blocks and free ranges of an object
abbrev pub places_in : List LiveBlock → List FreeRange → ℕ → List Place
places_in live free object =
    map block_place (filter (λ b. b.object == object) live) ++ map free_place (filter (λ r. r.object == object) free)

-- the places follow one another without a gap, from here to there
abbrev pub Tile : ℕ → ℕ → List Place → Type 0
Tile at end [] = at ≡ end
Tile at end (p ∷ ps) = (p.offset ≡ at) × Tile (at + p.size) end ps

-- the places are those of the object, each once, and they rise
pub record ArePlaces (live : List LiveBlock) (free : List FreeRange) (object : ℕ) (places : List Place) : Type 0 where
  pub each : IsPermutation (places_in live free object) places
  pub rising : IsNonDecreasingBy (λ p. p.offset) places
