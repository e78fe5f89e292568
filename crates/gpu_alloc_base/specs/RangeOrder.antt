-- The order of free ranges.
use Rattle.std.specs.Prelude.{◌≡◌, ◌⊎◌, ℕ, ◌<◌, Bool, ◌==◌, ◌&&◌, List, length, get_or}
use Rattle.gpu_alloc_types.specs.declared.types.FreeRange.{FreeRange}

-- both start at the same byte of one object
abbrev pub same_start : FreeRange → FreeRange → Bool
same_start r t = (r.object == t.object) && (r.start == t.start)

-- the first is of an object with a lesser name, or of the same object and starts before the second
abbrev pub IsRangeBefore : FreeRange → FreeRange → Type 0
IsRangeBefore r t = (r.object < t.object) ⊎ ((r.object ≡ t.object) × (r.start < t.start))

-- by object, then by start, and none twice
abbrev pub AreInOrder : List FreeRange → Type 0
AreInOrder ranges =
    (i j : ℕ) (d : FreeRange) → i < j → j < length ranges → IsRangeBefore (get_or ranges i d) (get_or ranges j d)
