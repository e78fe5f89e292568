-- Free ranges: how many bytes they have, and how scattered these are.
use Rattle.std.specs.Prelude.{◌↔◌, ℕ, ◌-◌, ◌*◌, ◌/◌, ◌==◌, List, [], ◌∷◌, map, Contains, cond, max, nat_lt, sum}
use Rattle.std.specs.List.{filter}
use Rattle.gpu_alloc.specs.FreeRanges.{IsFreeRangeOf}
use Rattle.gpu_alloc.specs.RangeOrder.{AreInOrder}
use Rattle.gpu_alloc.specs.State.{HeldObject, State}
use Rattle.gpu_alloc_types.specs.declared.types.FreeRange.{FreeRange}
use Rattle.gpu_report.specs.Held.{is_listed_as}
use Rattle.gpu_report.specs.declared.part.Part.{Part}

-- these are the free ranges of a memory type, each once
pub record AreFreeRanges (s : State) (t : ℕ) (free : List FreeRange) : Type 0 where
  pub exact : (r : FreeRange) → Contains free r ↔ IsFreeRangeOf s t r
  pub order : AreInOrder free

-- the lengths of those that lie in the held objects that are held as this
abbrev pub free_sizes : List (ℕ × HeldObject) → Part → List FreeRange → List ℕ
free_sizes held p free = map (λ r. r.end - r.start) (filter (λ r. is_listed_as held p r.object) free)

-- the greatest of the lengths, 0 where there are none
abbrev pub largest : List ℕ → ℕ
largest [] = 0
largest (n ∷ ns) = max n (largest ns)

-- those shorter than half of a length
abbrev pub shorter : ℕ → List ℕ → List ℕ
shorter most sizes = filter (λ n. nat_lt (2 * n) most) sizes

-- a part's share of a whole, in thousandths, rounded down; 0 where the whole is 0
abbrev pub thousandths : ℕ → ℕ → ℕ
thousandths part whole = cond (whole == 0) 0 (1000 * part / whole)

-- the share of the bytes that lie in ranges shorter than half of the longest one
abbrev pub scattered : List ℕ → ℕ
scattered sizes = thousandths (sum (shorter (largest sizes) sizes)) (sum sizes)
