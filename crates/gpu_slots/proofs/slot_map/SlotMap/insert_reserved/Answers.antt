use Rattle.std.proofs.Common.{◌≡◌, ◌+◌, ◌^◌, ◌<◌, ◌∙◌, length, arith}
use Rattle.gpu_slots.proofs.Lookups.{read_at}
use Rattle.gpu_slots.proofs.Sound.{gone_put, sound_push, push_live, push_is_new, push_given, takes_last, last_free, fill_was_empty, fill_begun, fill_unspent, place_fits, sound_fill, fill_live, fill_is_new, fill_given}
use Rattle.gpu_slots.proofs.Taken.{puts_at, free_key}
use Rattle.gpu_slots.proofs.slot_map.SlotMap.insert_reserved.Given.{Over}
use Rattle.gpu_slots.proofs.slot_map.SlotMap.insert_reserved.Goals as goal

pub invariant_of-self : goal.invariant_of-self
invariant_of-self g c =
    let room = rw (← c.self.view_is) at c.requires in
    let none = c.in_default.ensures.cases in
    rw c.pop.ensures.capacity
    (sound_push c.self.inside.places.items _ c.args.value c.push_reserved.ensures.items (omega (arith, room, none)) c.self.inside.free.items _ c.self.inside.len _ c.self.invariant (omega (arith, none)) (omega (arith, room, none)))

-- a value more may have a place, the one after the last
next : (g : Over) (c : goal.After-push_reserved g) → (length c.self.inside.places.items + 1 < 2 ^ 32) × (c.len-at.result ≡ length c.self.inside.places.items)
next g c =
    let room = rw (← c.self.view_is) at c.requires in
    let none = c.in_default.ensures.cases in
    (omega (arith, room, none), c.len-at.ensures ∙ c.self.inside.places.ok.0)

pub returns-in_default-clause-new_key : goal.returns-in_default-clause-new_key
returns-in_default-clause-new_key g c = rw (← c.self.view_is, (next g c).1) (push_is_new c.self.inside.places.items _ c.args.value c.push_reserved.ensures.items (next g c).0)

pub returns-in_default-clause-live : goal.returns-in_default-clause-live
returns-in_default-clause-live g c = rw (← c.self.view_is, (next g c).1) (push_live c.self.inside.places.items _ c.args.value c.push_reserved.ensures.items (next g c).0)

pub returns-in_default-clause-given : goal.returns-in_default-clause-given
returns-in_default-clause-given g c = rw (← c.self.view_is, (next g c).1) (push_given c.self.inside.places.items _ c.args.value c.push_reserved.ensures.items (next g c).0)

pub index_mut-place-requires : goal.index_mut-place-requires
index_mut-place-requires g c =
    let last = takes_last _ _ _ _ _ c.self.inside.free.ok.0 c.in-Some.ensures.cases c.in-Some.ensures.value c.in-Some.ensures.rest in
    let free = last_free _ _ _ _ _ _ c.self.invariant last in
    let within = free.within in
    let ok = c.self.inside.places.ok in
    omega (arith, within, ok)

pub overflow_mul-result : goal.overflow_mul-result
overflow_mul-result g c =
    let last = takes_last _ _ _ _ _ c.self.inside.free.ok.0 c.in-Some.ensures.cases c.in-Some.ensures.value c.in-Some.ensures.rest in
    let unspent = fill_unspent _ _ _ _ _ _ c.index_mut-place.result.now c.args.value c.self.invariant last (λ within. read_at _ _ _ within c.index_mut-place.ensures.value) in
    omega (arith, unspent)

pub overflow_add-result-in-None : goal.overflow_add-result-in-None
overflow_add-result-in-None g c =
    let last = takes_last _ _ _ _ _ c.self.inside.free.ok.0 c.in-Some.ensures.cases c.in-Some.ensures.value c.in-Some.ensures.rest in
    let read = λ (within : c.in-Some.at < length c.self.inside.places.items). read_at _ _ _ within c.index_mut-place.ensures.value in
    let unspent = fill_unspent _ _ _ _ _ _ c.index_mut-place.result.now c.args.value c.self.invariant last read in
    let fits = place_fits _ _ _ _ _ _ c.index_mut-place.result.now c.args.value c.self.invariant last read in
    omega (arith, unspent, fits)

pub invariant_of-self-2 : goal.invariant_of-self-2
invariant_of-self-2 g c =
    let last = takes_last _ _ _ _ _ c.self.inside.free.ok.0 c.in-Some.ensures.cases c.in-Some.ensures.value c.in-Some.ensures.rest in
    rw (c.pop.ensures.capacity, c.replace.ensures.after)
    (sound_fill _ _ _ _ _ _ c.index_mut-place.result.now c.args.value c.self.invariant last (λ within. read_at _ _ _ within c.index_mut-place.ensures.value))

pub returns-clause-never_zero : goal.returns-clause-never_zero
returns-clause-never_zero g c =
    let last = takes_last _ _ _ _ _ c.self.inside.free.ok.0 c.in-Some.ensures.cases c.in-Some.ensures.value c.in-Some.ensures.rest in
    let begun = fill_begun _ _ _ _ _ _ c.index_mut-place.result.now c.args.value c.self.invariant last (λ within. read_at _ _ _ within c.index_mut-place.ensures.value) in
    λ e. omega (arith, begun, e)

pub returns-clause-new_key : goal.returns-clause-new_key
returns-clause-new_key g c =
    let last = takes_last _ _ _ _ _ c.self.inside.free.ok.0 c.in-Some.ensures.cases c.in-Some.ensures.value c.in-Some.ensures.rest in
    rw (← c.self.view_is)
    (fill_is_new _ _ _ _ _ _ c.index_mut-place.result.now c.args.value c.self.invariant last (λ within. read_at _ _ _ within c.index_mut-place.ensures.value))

pub returns-clause-live : goal.returns-clause-live
returns-clause-live g c =
    let last = takes_last _ _ _ _ _ c.self.inside.free.ok.0 c.in-Some.ensures.cases c.in-Some.ensures.value c.in-Some.ensures.rest in
    rw (← c.self.view_is, c.replace.ensures.after)
    (fill_live _ _ _ _ _ _ c.index_mut-place.result.now c.args.value c.self.invariant last (λ within. read_at _ _ _ within c.index_mut-place.ensures.value))

pub returns-clause-given : goal.returns-clause-given
returns-clause-given g c =
    let last = takes_last _ _ _ _ _ c.self.inside.free.ok.0 c.in-Some.ensures.cases c.in-Some.ensures.value c.in-Some.ensures.rest in
    rw (← c.self.view_is, c.replace.ensures.after)
    (fill_given _ _ _ _ _ _ c.index_mut-place.result.now c.args.value c.self.invariant last (λ within. read_at _ _ _ within c.index_mut-place.ensures.value))

pub returns-in_default-clause-gone : goal.returns-in_default-clause-gone
returns-in_default-clause-gone g c = gone_put _ _ _ _ _ c.args.value (returns-in_default-clause-new_key g c) (returns-in_default-clause-live g c) (returns-in_default-clause-given g c)

pub returns-clause-gone : goal.returns-clause-gone
returns-clause-gone g c = gone_put _ _ _ _ _ c.args.value (returns-clause-new_key g c) (returns-clause-live g c) (returns-clause-given g c)

pub unreachable-requires : goal.unreachable-requires
unreachable-requires g c =
    let last = takes_last _ _ _ _ _ c.self.inside.free.ok.0 c.in-Some.ensures.cases c.in-Some.ensures.value c.in-Some.ensures.rest in
    let empty = fill_was_empty _ _ _ _ _ _ c.index_mut-place.result.now c.args.value c.self.invariant last (λ within. read_at _ _ _ within c.index_mut-place.ensures.value) in
    let is = c.in-Some-replace.is in
    let value = c.replace.ensures.value in
    cc

pub returns-in_default-clause-puts : goal.returns-in_default-clause-puts
returns-in_default-clause-puts g c = puts_at _ _ _ _ (free_key c.args.self.now _ (returns-in_default-clause-new_key g c)) (returns-in_default-clause-live g c)

pub returns-clause-puts : goal.returns-clause-puts
returns-clause-puts g c = puts_at _ _ _ _ (free_key c.args.self.now _ (returns-clause-new_key g c)) (returns-clause-live g c)
