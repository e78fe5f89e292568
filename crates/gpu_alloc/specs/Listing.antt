-- Lists of what an allocator has given out.
use Rattle.std.specs.Prelude.{◌≡◌, ◌≢◌, ℕ, ◌<◌, List, [], ◌∷◌, Contains, MatchOption, Option, Some, length}
use Rattle.std.specs.FinMap as map
use Rattle.gpu_alloc_block.specs.State.{HeldObject, Span, State}
use Rattle.gpu_alloc_block.specs.declared.block.Kind.{Kind}
use Rattle.gpu_alloc.specs.declared.spans.HeldRow.{HeldRow}

-- no span stands in the list twice
abbrev pub AreOnce : List Span → Type 0
AreOnce [] = Unit {0}
AreOnce (x ∷ xs) = ((y : Span) → Contains xs y → y ≢ x) × AreOnce xs

-- each held object is of a memory type that the device has
abbrev pub AreOfKnownTypes : State → Type 0
AreOfKnownTypes s = (object : ℕ) (h : HeldObject) → map.get s.held object ≡ Some h
    → h.memory_type < length s.properties.memory_types

-- what a chunk is listed as, by its object's name, its memory type, its size and its kind
abbrev pub listed_as : ℕ → ℕ → ℕ → Kind → ℕ × HeldRow
listed_as object memory_type size kind = (object, record { memory_type = memory_type; counted = size; kind = kind })

-- the row of one of these that has the object's name, or none where none has
abbrev pub IsRowOf : {E : Type 0} → (E → ℕ × HeldRow) → List E → ℕ → Option HeldRow → Type 0
IsRowOf {E} row listed object found = MatchOption found ((e : E) → Contains listed e → (row e).0 ≢ object)
    (λ r. (e : E) × Contains listed e × (row e ≡ (object, r)))
