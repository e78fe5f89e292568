use Rattle.std.proofs.Common.{◌≡◌, ◌↔◌, ℕ, ◌%◌, ◌^◌, ◌<◌, ◌∙◌, length, sym, None, arith}
use Rattle.std.specs.FinMap as map
use Rattle.std.specs.Option.{IsSome}
use Rattle.gpu_slots.specs.Places.{live_in, place_at}
use Rattle.gpu_slots.specs.SlotMap.{IsGiven}
use Rattle.gpu_slots.proofs.Lookups.{read_at, remove_none}
use Rattle.gpu_slots.proofs.Sound.{on_some, gone_out, gone_now, live_within, live_counted, take_generation, take_value, take_retired, take_freed, take_live, take_given, state, vacated}
use Rattle.gpu_slots.proofs.Taken.{takes_if}
use Rattle.gpu_slots.proofs.slot_map.SlotMap.remove.Given.{Over}
use Rattle.gpu_slots.proofs.slot_map.SlotMap.remove.Goals as goal
use Rattle.gpu_slots.proofs.slot_map.SlotMap.remove.Goals.{After-take-value}

pub returns-then-is_none-clause-live : goal.returns-then-is_none-clause-live
returns-then-is_none-clause-live g c =
    let none : map.get c.args.self.now.live c.args.key ≡ None = sym c.get.ensures ∙ grind arith in
    remove_none _ c.args.key none

pub overflow_sub-self : goal.overflow_sub-self
overflow_sub-self g c =
    let some : IsSome (map.get c.args.self.now.live c.args.key) = rw (← c.get.ensures) (grind arith) in
    live_counted _ _ _ _ c.self.invariant c.args.key (rw (← c.self.view_is) at some)

pub index_mut-place-requires : goal.index_mut-place-requires
index_mut-place-requires g c =
    let some : IsSome (map.get c.args.self.now.live c.args.key) = rw (← c.get.ensures) (grind arith) in
    let within = live_within _ _ _ _ c.self.invariant c.args.key (rw (← c.self.view_is) at some) in
    let ok = c.self.inside.places.ok in
    omega (arith, within, ok)

pub overflow_add-place : goal.overflow_add-place
overflow_add-place g c =
    let some : IsSome (map.get c.args.self.now.live c.args.key) = rw (← c.get.ensures) (grind arith) in
    let live = rw (← c.self.view_is) at some in
    let is = take_generation _ _ _ _ c.self.invariant c.args.key c.index_mut-place.result.now live (λ within. read_at _ _ _ within c.index_mut-place.ensures.value) in
    let fits = c.ranges.key.fits in
    omega (arith, is, fits)

-- Once the value is out, before its place is free again or spent.

there : (g : Over) (c : After-take-value g) → IsSome (map.get c.args.self.now.live c.args.key)
there g c = rw (← c.get.ensures) (grind arith)

live : (g : Over) (c : After-take-value g) → IsSome (map.get (live_in c.self.inside.places.items) c.args.key)
live g c = rw (← c.self.view_is) at (there g c)

read : (g : Over) (c : After-take-value g) → c.args.key % 2 ^ 32 < length c.self.inside.places.items → c.index_mut-place.result.now ≡ place_at c.self.inside.places.items (c.args.key % 2 ^ 32)
read g c within = read_at _ _ _ within c.index_mut-place.ensures.value

value : (g : Over) (c : After-take-value g) → c.take-value.result ≡ map.get c.args.self.now.live c.args.key
value g c = rw (← c.self.view_is) (c.take-value.ensures.value ∙ take_value _ _ _ _ c.self.invariant c.args.key c.index_mut-place.result.now (live g c) (read g c))

removed : (g : Over) (c : After-take-value g) → live_in (vacated _ _ _ _ c.self.invariant c.args.key c.index_mut-place.result.now (live g c) (read g c)) ≡ map.remove c.args.self.now.live c.args.key
removed g c = rw (← c.self.view_is) (take_live _ _ _ _ c.self.invariant c.args.key c.index_mut-place.result.now (live g c) (read g c))

given : (g : Over) (c : After-take-value g) (other : ℕ) → IsGiven (state (vacated _ _ _ _ c.self.invariant c.args.key c.index_mut-place.result.now (live g c) (read g c))) other ↔ IsGiven c.args.self.now other
given g c = rw (← c.self.view_is) (take_given _ _ _ _ c.self.invariant c.args.key c.index_mut-place.result.now (live g c) (read g c))

pub push_reserved-requires : goal.push_reserved-requires
push_reserved-requires g c =
    let counted = live_counted _ _ _ _ c.self.invariant c.args.key (live g (goal.at.push_reserved-requires g c).After-take-value) in
    let fits = c.self.invariant.fits in
    let ok = c.self.inside.free.ok in
    omega (arith, counted, fits, ok)

pub invariant_of-self : goal.invariant_of-self
invariant_of-self g c =
    let out = (goal.at.invariant_of-self g c).After-take-value in
    rw (c.push_reserved.ensures.items, c.push_reserved.ensures.capacity, c.take-value.ensures.after)
    (take_freed _ _ _ _ c.self.invariant c.args.key c.index_mut-place.result.now (live g out) (read g out) c.if-place-lt-SPAN.true)

pub invariant_of-self-else-place-lt-SPAN : goal.invariant_of-self-else-place-lt-SPAN
invariant_of-self-else-place-lt-SPAN g c =
    let out = (goal.at.invariant_of-self-else-place-lt-SPAN g c).After-take-value in
    rw c.take-value.ensures.after
    (take_retired _ _ _ _ c.self.invariant c.args.key c.index_mut-place.result.now (live g out) (read g out))

pub returns-then-place-lt-SPAN-clause-value : goal.returns-then-place-lt-SPAN-clause-value
returns-then-place-lt-SPAN-clause-value g c = value g (goal.at.returns-then-place-lt-SPAN-clause-value g c).After-take-value

pub returns-else-place-lt-SPAN-clause-value : goal.returns-else-place-lt-SPAN-clause-value
returns-else-place-lt-SPAN-clause-value g c = value g (goal.at.returns-else-place-lt-SPAN-clause-value g c).After-take-value

pub returns-then-place-lt-SPAN-clause-live : goal.returns-then-place-lt-SPAN-clause-live
returns-then-place-lt-SPAN-clause-live g c = rw c.take-value.ensures.after (removed g (goal.at.returns-then-place-lt-SPAN-clause-live g c).After-take-value)

pub returns-else-place-lt-SPAN-clause-live : goal.returns-else-place-lt-SPAN-clause-live
returns-else-place-lt-SPAN-clause-live g c = rw c.take-value.ensures.after (removed g (goal.at.returns-else-place-lt-SPAN-clause-live g c).After-take-value)

pub returns-then-place-lt-SPAN-clause-room : goal.returns-then-place-lt-SPAN-clause-room
returns-then-place-lt-SPAN-clause-room g c =
    let counted = live_counted _ _ _ _ c.self.invariant c.args.key (live g (goal.at.returns-then-place-lt-SPAN-clause-room g c).After-take-value) in
    let more = c.push_reserved.ensures.len in
    let as_before = c.push_reserved.ensures.capacity in
    rw (← c.self.view_is) (omega (arith, counted, more, as_before))

pub returns-then-place-lt-SPAN-clause-given : goal.returns-then-place-lt-SPAN-clause-given
returns-then-place-lt-SPAN-clause-given g c = rw c.take-value.ensures.after (given g (goal.at.returns-then-place-lt-SPAN-clause-given g c).After-take-value)

pub returns-else-place-lt-SPAN-clause-given : goal.returns-else-place-lt-SPAN-clause-given
returns-else-place-lt-SPAN-clause-given g c = rw c.take-value.ensures.after (given g (goal.at.returns-else-place-lt-SPAN-clause-given g c).After-take-value)

pub returns-then-place-lt-SPAN-clause-gone : goal.returns-then-place-lt-SPAN-clause-gone
returns-then-place-lt-SPAN-clause-gone g c = gone_out _ _ _ _ c.args.key (returns-then-place-lt-SPAN-clause-live g c) (returns-then-place-lt-SPAN-clause-given g c)

pub returns-else-place-lt-SPAN-clause-gone : goal.returns-else-place-lt-SPAN-clause-gone
returns-else-place-lt-SPAN-clause-gone g c = gone_out _ _ _ _ c.args.key (returns-else-place-lt-SPAN-clause-live g c) (returns-else-place-lt-SPAN-clause-given g c)

pub returns-then-place-lt-SPAN-clause-refused : goal.returns-then-place-lt-SPAN-clause-refused
returns-then-place-lt-SPAN-clause-refused g c = on_some _ (gone_now _ _ _ _ c.args.key (there g (goal.at.returns-then-place-lt-SPAN-clause-refused g c).After-take-value) (returns-then-place-lt-SPAN-clause-live g c) (returns-then-place-lt-SPAN-clause-given g c))

pub returns-else-place-lt-SPAN-clause-refused : goal.returns-else-place-lt-SPAN-clause-refused
returns-else-place-lt-SPAN-clause-refused g c = on_some _ (gone_now _ _ _ _ c.args.key (there g (goal.at.returns-else-place-lt-SPAN-clause-refused g c).After-take-value) (returns-else-place-lt-SPAN-clause-live g c) (returns-else-place-lt-SPAN-clause-given g c))

pub returns-then-place-lt-SPAN-clause-reused : goal.returns-then-place-lt-SPAN-clause-reused
returns-then-place-lt-SPAN-clause-reused g c =
    let counted = live_counted _ _ _ _ c.self.invariant c.args.key (live g (goal.at.returns-then-place-lt-SPAN-clause-reused g c).After-take-value) in
    let more = c.push_reserved.ensures.len in
    let as_before = c.push_reserved.ensures.capacity in
    λ _ unspent. rw (← c.self.view_is) (omega (arith, counted, more, as_before))

pub returns-else-place-lt-SPAN-clause-reused : goal.returns-else-place-lt-SPAN-clause-reused
returns-else-place-lt-SPAN-clause-reused g c =
    let out = (goal.at.returns-else-place-lt-SPAN-clause-reused g c).After-take-value in
    let is = take_generation _ _ _ _ c.self.invariant c.args.key c.index_mut-place.result.now (live g out) (read g out) in
    let spent = c.if-place-lt-SPAN.false in
    λ _ unspent. absurd (omega (arith, is, spent, unspent))

pub returns-then-place-lt-SPAN-clause-takes : goal.returns-then-place-lt-SPAN-clause-takes
returns-then-place-lt-SPAN-clause-takes g c = takes_if _ _ _ _ (returns-then-place-lt-SPAN-clause-value g c) (returns-then-place-lt-SPAN-clause-live g c)

pub returns-else-place-lt-SPAN-clause-takes : goal.returns-else-place-lt-SPAN-clause-takes
returns-else-place-lt-SPAN-clause-takes g c = takes_if _ _ _ _ (returns-else-place-lt-SPAN-clause-value g c) (returns-else-place-lt-SPAN-clause-live g c)
