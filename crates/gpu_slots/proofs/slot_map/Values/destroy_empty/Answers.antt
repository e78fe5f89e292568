use Rattle.std.proofs.Common.{◌≡◌, None}
use Rattle.std.specs.FinMap as map
use Rattle.std.proofs.lemmas.List.Elements.{All-pop}
use Rattle.gpu_slots.proofs.Lookups.{none_live}
use Rattle.gpu_slots.proofs.slot_map.Values.destroy_empty.Goals as goal

pub loop-place-init : goal.loop-place-init
loop-place-init g c =
    none_live c.self.inside.places.items c.self.invariant (map.empty_of_len _ (rw (← c.self.view_is) at c.requires))

pub loop-place-preserved : goal.loop-place-preserved
loop-place-preserved g c = (All-pop (λ p. p.value ≡ None) _ _ c.pop.result c.pop.ensures.items c.loop-place.invariant).0

pub unreachable-requires : goal.unreachable-requires
unreachable-requires g c =
    let popped = rw c.in-Some.is at (All-pop (λ p. p.value ≡ None) _ _ c.pop.result c.pop.ensures.items c.loop-place.invariant).1 in
    absurd (cc (popped, c.in-Some-value.is))
