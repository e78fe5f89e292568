use Rattle.std.proofs.Common.{◌≤◌, ◌^◌, ◌∙◌, sym, length, arith}
use Rattle.gpu_slots.proofs.Lookups.{read_at, get_here, get_later, get_past}
use Rattle.gpu_slots.proofs.slot_map.SlotMap.get.Goals as goal
use Rattle.gpu_slots.proofs.slot_map.SlotMap.get.Goals.{in_default-via-in-Some+else-place-key, in_default-via-in_default}

pub returns-in-Some : goal.returns-in-Some
returns-in-Some g c =
    let few = c.self.invariant.few in
    let le : length c.self.inside.places.items ≤ 2 ^ 32 = omega (arith, few) in
    let read = rw c.deref.ensures.value at c.in-Some.ensures.lookup in
    rw (← c.self.view_is)
    (c.as_ref.ensures.value ∙ sym (get_here _ c.args.key c.in-Some.place.now le (read_at _ _ _ read.3.0 read.1) c.if-place-key.true))

pub returns-in_default : goal.returns-in_default
returns-in_default g c =
    let few = c.self.invariant.few in
    let le : length c.self.inside.places.items ≤ 2 ^ 32 = omega (arith, few) in
    rw (← c.self.view_is)
    (elim c.in_default.branch [
      | in_default-via-in-Some+else-place-key w ↦
          let read = rw c.deref.ensures.value at w.in-Some.ensures.lookup in
          sym (get_later _ c.args.key w.in-Some.place.now le (read_at _ _ _ read.3.0 read.1) w.if-place-key.false)
      | in_default-via-in_default w ↦
          let past = rw c.deref.ensures.value at w.in_default.ensures.lookup in
          sym (get_past _ c.args.key le past.3)
    ])
