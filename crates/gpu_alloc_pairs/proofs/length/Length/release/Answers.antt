use Rattle.std.proofs.Common.{None, ap, refl}
use Rattle.gpu_alloc_pairs.specs.Links.{free_side}
use Rattle.gpu_alloc_pairs.proofs.Changes.{half_is_freed, pair_is_merged}
use Rattle.gpu_alloc_pairs.proofs.length.Length.release.Goals as goal

pub invariant_of-self : goal.invariant_of-self
invariant_of-self g c =
    c.link-state.ensures.linked c.set_state.new.pairs _ c.set_state.ensures.sets.updates
    (ap (λ p. p.state) c.set_state.ensures.sets.suits)

pub returns-in-Exhausted-clause-freed : goal.returns-in-Exhausted-clause-freed
returns-in-Exhausted-clause-freed g c =
    half_is_freed c.self.inside.pairs c.link-state.new.pairs c.set_state.new.pairs c.args.self.now c.args.key c.args.side
    c.index.result.now c.link-state.result c.self.view_is c.index.ensures (ap free_side c.in-Exhausted.is) c.link-state.ensures.keeps
    c.link-state.ensures.free c.set_state.ensures.sets

pub invariant_of-self-in-Ready : goal.invariant_of-self-in-Ready
invariant_of-self-in-Ready g c =
    c.unlink-self-inside.ensures.linked c.remove-pair.new.self None c.remove-pair.ensures.updates refl

pub returns-in-Ready-clause-merged : goal.returns-in-Ready-clause-merged
returns-in-Ready-clause-merged g c =
    pair_is_merged c.self.inside.pairs c.unlink-self-inside.new.pairs c.remove-pair.new.self c.args.self.now c.args.key
    c.args.side c.index.result.now c.remove-pair.result c.in-Ready.side c.in-Ready.next c.in-Ready.prev c.self.view_is
    c.index.ensures c.in-Ready.is c.requires.used c.unlink-self-inside.ensures.keeps c.remove-pair.ensures.value
    c.remove-pair.ensures.updates
