-- Held objects by memory type and kind.
use Rattle.std.specs.Prelude.{◌≡◌, ℕ, zero, suc, ◌==◌, ◌&&◌, Bool, false, List, [], ◌∷◌, ◌++◌, Option, Some, None, nat_eq}
use Rattle.std.specs.List.{filter, IsDistinct}
use Rattle.std.specs.List.Sorted.{IsNonDecreasing}
use Rattle.std.specs.Map.{keys_of, lookup}
use Rattle.std.specs.FinMap as finite
use Rattle.gpu_alloc.specs.State.{HeldObject, State}
use Rattle.gpu_alloc.specs.Types.Kind.{Kind}
use Rattle.gpu_alloc.specs.Types.Kind.TheVariants as kind
use Rattle.gpu_report.specs.declared.part.Part.{Part}
use Rattle.gpu_report.specs.declared.report.ObjectKind.{ObjectKind}
use Rattle.gpu_report.specs.declared.report.ObjectKind.TheVariants.{Dedicated, Imported, BuddyChunk, FreeListChunk, FitChunk}

-- the kind that a report gives an object: it leaves out the number of a free list's chunk
abbrev pub kind_of : Kind → ObjectKind
kind_of kind.Dedicated = Dedicated
kind_of kind.Imported = Imported
kind_of kind.BuddyChunk = BuddyChunk
kind_of (kind.FreeListChunk number) = FreeListChunk
kind_of kind.FitChunk = FitChunk

-- the order of kinds
abbrev pub rank : ObjectKind → ℕ
rank Dedicated = 0
rank Imported = 1
rank BuddyChunk = 2
rank FreeListChunk = 3
rank FitChunk = 4

-- whether an object is held as this: a memory type, and what objects of it are held for
abbrev pub is_of : Part → HeldObject → Bool
is_of p h = (h.memory_type == p.memory_type) && (rank (kind_of h.kind) == rank p.kind)

-- whether the object of a name is held as this
abbrev pub is_found : Part → Option HeldObject → Bool
is_found p None = false
is_found p (Some h) = is_of p h

abbrev pub part_of : ℕ → ObjectKind → Part
part_of t kind = record { memory_type = t; kind = kind }

-- all kinds of a memory type, and those of the first n memory types, by memory type, then kind
abbrev pub parts_of_type : ℕ → List Part
parts_of_type t =
    part_of t Dedicated ∷ part_of t Imported ∷ part_of t BuddyChunk ∷ part_of t FreeListChunk ∷ part_of t FitChunk ∷ []

abbrev pub parts : ℕ → List Part
parts zero = []
parts (suc n) = parts n ++ parts_of_type n

-- these are the held objects, each once, by name
pub record AreHeld (s : State) (held : List (ℕ × HeldObject)) : Type 0 where
  pub exact : finite.from_entries held ≡ s.held
  pub once : IsDistinct nat_eq (keys_of held)
  pub rising : IsNonDecreasing (keys_of held)

-- whether the object of a name is one of these and is held as this
abbrev pub is_listed_as : List (ℕ × HeldObject) → Part → ℕ → Bool
is_listed_as entries p object = is_found p (lookup (nat_eq object) entries)

-- those of these that are held as this
abbrev pub held_as : List (ℕ × HeldObject) → Part → List (ℕ × HeldObject)
held_as entries p = filter (λ e. is_of p e.1) entries
