-- The held objects, and the names of those that were released.
use Rattle.std.specs.Prelude.{◌≡◌, ℕ, ◌+◌, ◌-◌, ◌^◌, ◌<◌, ◌≤◌, min, nat_eq, List, All, Option, Some, None, refl}
use Rattle.std.specs.Coded.{Coded, code_by, coded×, coded_ℕ, coded_list}
use Rattle.std.specs.FinMap as map
use Rattle.std.specs.FinMap.{FinMap}
use Rattle.std.specs.List.{Contains, IsDistinct}
use Rattle.std.specs.Ordering.{nat_cmp}
use Rattle.gpu_answers.specs.declared.objects.HeldObject.{HeldObject}
use Rattle.gpu_answers.specs.contracts.objects.HeldObject as held_object

-- The objects by name, the latest name that was used, the names that were released, and how many more objects fit in
-- without an allocation.
pub record HeldState : Type 0 where
  pub objects : FinMap nat_cmp HeldObject
  pub last_name : ℕ
  pub gone : List ℕ
  pub room : ℕ

abbrev pub held_code : Coded HeldState
held_code =
    code_by ((FinMap nat_cmp HeldObject × ℕ) × (List ℕ × ℕ))
    (coded× (coded× (map.code coded_ℕ held_object.the_row.coded) coded_ℕ) (coded× (coded_list coded_ℕ) coded_ℕ))
    (λ s. ((s.objects, s.last_name), (s.gone, s.room)))
    (λ c. record { objects = c.0.0; last_name = c.0.1; gone = c.1.0; room = c.1.1 }) (λ _. refl)

-- an object that was just made
abbrev pub new_held_object : (size memory_type : ℕ) → HeldObject
new_held_object size t = record { memory_type = t; size = size; mapped = None }

-- the object, with that range mapped or none
abbrev pub held_mapped_as : Option (ℕ × ℕ) → HeldObject → HeldObject
held_mapped_as range o = record o { mapped = range }

-- the object of that name changes so, and no other
abbrev pub ChangesHeldObject : (HeldObject → HeldObject) → FinMap nat_cmp HeldObject → ℕ → FinMap nat_cmp HeldObject → Type 0
ChangesHeldObject change old name new =
    (o : HeldObject) × (map.get old name ≡ Some o) × (new ≡ map.insert old name (change o))

-- no object has a name above the latest
abbrev pub AreNamedUpTo : ℕ → FinMap nat_cmp HeldObject → Type 0
AreNamedUpTo last objects = (name : ℕ) → last < name → map.get objects name ≡ None

-- the name was used, and no object has it
abbrev pub IsUsed : ℕ → FinMap nat_cmp HeldObject → ℕ → Type 0
IsUsed last objects name = (name ≤ last) × (map.get objects name ≡ None)

-- What always holds: no name is above the latest. No object has a released name, and each such name is listed once. Of
-- the places for such names some are taken, and one is left for each held object.
pub record AreNamesKept (last : ℕ) (gone : List ℕ) (taken places : ℕ) (objects : FinMap nat_cmp HeldObject) : Type 0 where
  pub named : AreNamedUpTo last objects
  pub used : All (IsUsed last objects) gone
  pub once : IsDistinct nat_eq gone
  pub names_fit : taken + map.len objects ≤ places

-- How many more objects fit in: for each an entry, a place for its name once it is released, and a name. Names end at
-- the greatest number.
abbrev pub room_for_objects : (entries last taken places : ℕ) → FinMap nat_cmp HeldObject → ℕ
room_for_objects entries last taken places objects =
    min entries (min (places - (taken + map.len objects)) (2 ^ 64 - 1 - last))

-- Names as callers see them.

-- the name was given, and no object has it any more
abbrev pub IsPast : HeldState → ℕ → Type 0
IsPast s name = IsUsed s.last_name s.objects name

-- and it does not wait to be read: it was read, or must not be
abbrev pub IsSpent : HeldState → ℕ → Type 0
IsSpent s name = IsPast s name × (Contains s.gone name → ⊥)

-- What always holds of the names: none is above the latest, and each that waits to be read belongs to no object and is
-- listed once.
pub record AreNamed (s : HeldState) : Type 0 where
  pub held : AreNamedUpTo s.last_name s.objects
  pub waiting : All (IsPast s) s.gone
  pub once : IsDistinct nat_eq s.gone

-- Names rise, and none comes twice: no object gets a name that was given before, and no spent name waits again.
pub record KeepsNames (old new : HeldState) : Type 0 where
  pub rises : old.last_name ≤ new.last_name
  pub past : (name : ℕ) → IsPast old name → IsPast new name
  pub spent : (name : ℕ) → IsSpent old name → IsSpent new name
