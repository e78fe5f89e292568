-- What a `SlotMap` becomes when a `&mut` to one of its values is returned.
use Rattle.std.specs.Prelude.{ℕ, Option, Some}
use Rattle.std.specs.Borrow.{Lends, LendsIf, Fml, RattleType, MutBor}
use Rattle.std.specs.declared.alloc.Allocator.{Ghosts}
use Rattle.gpu_slots.specs.declared.slot_map.Place.{Place}
use Rattle.gpu_slots.specs.SlotMap.{SlotState, with_value}
use Rattle.gpu_slots.specs.contracts.slot_map.Place as place
use Rattle.gpu_slots.specs.contracts.slot_map.SlotMap.{the_row}

module _ (T A : RattleType) (alloc : Ghosts A.Denot) (s : MutBor (SlotState T.Denot)) (key : ℕ) where
  -- once the borrow r ends, the key has the last value written through r
  abbrev pub lends_value : MutBor T.Denot → Fml
  lends_value r = Lends (the_row T A alloc) T s r (with_value s.now key)

  -- the same where r is a reference; at `None` the map is unchanged
  abbrev pub lends_get : Option (MutBor T.Denot) → Fml
  lends_get r = LendsIf (the_row T A alloc) T s r (with_value s.now key) s.now

-- once the borrow r ends, the place has the last value written through r
abbrev pub lends_place : (T : RattleType) → MutBor (Place T.Denot) → MutBor T.Denot → Fml
lends_place T p r = Lends (place.the_row T) T p r (λ value. record { generation = p.now.generation; value = Some value })
