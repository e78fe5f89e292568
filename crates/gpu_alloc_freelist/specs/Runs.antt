-- The free runs of a list in their order, and how its calls change them.
use Rattle.std.specs.Prelude.{◌≡◌, ◌⊎◌, ℕ, ◌+◌, ◌-◌, ◌*◌, ◌^◌, ◌<◌, ◌≤◌, List, ◌∷◌, ◌++◌, length, take, drop, set, get_or}
use Rattle.std.specs.List.{All, remove}
use Rattle.gpu_alloc_base.specs.FreeRuns.{AreRising, HasRoom}
use Rattle.gpu_alloc_base.specs.declared.region.FreeListRegion.{FreeListRegion}

-- The regions of the runs, and how many more of them there is room for.
pub record Runs : Type 0 where
  pub regions : List FreeListRegion
  pub room : ℕ

-- the regions are not empty, and rise
pub record AreSorted (regions : List FreeListRegion) : Type 0 where
  pub nonempty : All (λ r. r.start < r.end) regions
  pub rising : AreRising regions

-- it has fewer bytes than a block of this size
abbrev pub IsShorter : ℕ → FreeListRegion → Type 0
IsShorter size r = r.end < r.start + size

-- all from one index up to another are
abbrev pub AreShorter : List FreeListRegion → ℕ → ℕ → ℕ → Type 0
AreShorter regions size from to =
    (k : ℕ) (d : FreeListRegion) → from ≤ k → k < to → IsShorter size (get_or regions k d)

-- the last one with room stands here
pub record IsLastFit (regions : List FreeListRegion) (size alignment i : ℕ) (d : FreeListRegion) : Type 0 where
  pub room : HasRoom size alignment (get_or regions i d).start (get_or regions i d).end
  pub later : (j : ℕ) → i < j → j < length regions
      → HasRoom size alignment (get_or regions j d).start (get_or regions j d).end → ⊥

-- The bytes from `start` on are cut from the region at this index: what is left of it stays, if anything is.
abbrev pub Cuts : List FreeListRegion → ℕ → ℕ → List FreeListRegion → Type 0
Cuts old i start new = (d : FreeListRegion) →
    (((get_or old i d).start < start) × (new ≡ set old i (record (get_or old i d) { end = start })))
    ⊎ (((get_or old i d).start ≡ start) × (new ≡ remove old i))

-- How a block is returned.

-- the two have no byte in common
abbrev pub IsApart : FreeListRegion → FreeListRegion → Type 0
IsApart r x = r.chunk ≡ x.chunk → (r.end ≤ x.start) ⊎ (x.end ≤ r.start)

-- the first starts before the second, or lies in an earlier chunk
abbrev pub StartsBefore : FreeListRegion → FreeListRegion → Type 0
StartsBefore r x = (r.chunk < x.chunk) ⊎ ((r.chunk ≡ x.chunk) × (r.start < x.start))

-- exactly the first `place` regions start before the block
pub record IsPlaceOf (block : FreeListRegion) (regions : List FreeListRegion) (place : ℕ) : Type 0 where
  pub within : place ≤ length regions
  pub before : (k : ℕ) (d : FreeListRegion) → k < place → StartsBefore (get_or regions k d) block
  pub behind : (k : ℕ) (d : FreeListRegion) → place ≤ k → k < length regions
      → StartsBefore (get_or regions k d) block → ⊥

-- the run before this place ends where the block starts
abbrev pub TouchesBefore : List FreeListRegion → ℕ → FreeListRegion → FreeListRegion → Type 0
TouchesBefore regions place block d =
    (0 < place)
    × (((get_or regions (place - 1) d).chunk ≡ block.chunk) × ((get_or regions (place - 1) d).end ≡ block.start))

-- the run at this place starts where the block ends
abbrev pub TouchesAfter : List FreeListRegion → ℕ → FreeListRegion → FreeListRegion → Type 0
TouchesAfter regions place block d =
    (place < length regions)
    × (((get_or regions place d).chunk ≡ block.chunk) × ((get_or regions place d).start ≡ block.end))

-- The block at this place is joined with the runs that it touches: the joint takes the place of those from one index up
-- to another.
pub record IsJoint (regions : List FreeListRegion) (place : ℕ) (block d : FreeListRegion) (from to : ℕ)
    (joint : FreeListRegion) : Type 0 where
  pub chunk : joint.chunk ≡ block.chunk
  pub before :
      (TouchesBefore regions place block d ×
      ((from + 1 ≡ place) × (joint.start ≡ (get_or regions (place - 1) d).start)))
      ⊎ ((TouchesBefore regions place block d → ⊥) × ((from ≡ place) × (joint.start ≡ block.start)))
  pub after :
      (TouchesAfter regions place block d × ((to ≡ place + 1) × (joint.end ≡ (get_or regions place d).end)))
      ⊎ ((TouchesAfter regions place block d → ⊥) × ((to ≡ place) × (joint.end ≡ block.end)))

-- The block is joined with the runs that it touches, at the place after those that start before it.
pub record PutsBack (old : List FreeListRegion) (block joint : FreeListRegion) (new : List FreeListRegion) : Type 0 where
  pub place : ℕ
  pub from : ℕ
  pub to : ℕ
  pub at : IsPlaceOf block old place
  pub joined : (d : FreeListRegion) → IsJoint old place block d from to joint
  pub is : new ≡ take from old ++ joint ∷ drop to old

-- the comparisons are at most the number of binary digits of the number of regions
abbrev pub AreFewComparisons : ℕ → ℕ → ℕ → Type 0
AreFewComparisons regions old new = 2 ^ (new - old) ≤ 2 * regions + 1
