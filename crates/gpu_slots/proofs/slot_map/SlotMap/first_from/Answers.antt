use Rattle.std.proofs.Common.{◌<◌, ◌≤◌, ◌∙◌, sym, subst, length, arith}
use Rattle.gpu_slots.specs.declared.slot_map.Place.{Place}
use Rattle.gpu_slots.proofs.Lookups.{read_at}
use Rattle.gpu_slots.proofs.Walk.{first_from, none_from}
use Rattle.gpu_slots.proofs.slot_map.SlotMap.first_from.Goals as goal

pub returns-then-is_some-clause-first : goal.returns-then-is_some-clause-first
returns-then-is_some-clause-first g c =
    let within : c.loop-at.at < length c.self.inside.places.items = let below = c.loop-at-test.true in let ok = c.self.inside.places.ok in let is = c.len.ensures in omega (arith, below, ok, is) in
    let place = read_at _ _ _ within c.index-found.ensures in
    let begun : 0 < c.index-found.result.now.generation = subst (λ (p : Place _). 0 < p.generation) (sym place) (c.self.invariant.begun c.loop-at.at within) in
    rw (← c.self.view_is)
    (first_from _ c.self.invariant.few c.args.place c.loop-at.at c.loop-at.invariant.empty c.loop-at.invariant.from within c.index-found.result.now
    place (sym c.is_some.ensures ∙ c.if-is_some.true) begun _)

pub returns-clause-none : goal.returns-clause-none
returns-clause-none g c = λ none.
    let ended : length c.self.inside.places.items ≤ c.loop-at.at = let past = c.loop-at-test.false in let ok = c.self.inside.places.ok in let is = c.len.ensures in omega (arith, past, ok, is) in
    rw (← c.self.view_is) (none_from _ c.self.invariant.few c.args.place c.loop-at.at c.loop-at.invariant.empty ended 0)
