use Rattle.std.proofs.Common.{ap}
use Rattle.gpu_alloc_pairs.specs.Links.{free_side}
use Rattle.gpu_alloc_pairs.proofs.Changes.{half_is_taken}
use Rattle.gpu_alloc_pairs.proofs.length.Length.take.Goals as goal

pub invariant_of-self : goal.invariant_of-self
invariant_of-self g c =
    c.unlink-self-inside.ensures.linked c.exhaust.new.pairs _ c.exhaust.ensures.sets.updates
    (ap free_side c.exhaust.ensures.sets.suits.0)

pub returns-clause-sets : goal.returns-clause-sets
returns-clause-sets g c =
    half_is_taken c.self.inside.pairs c.unlink-self-inside.new.pairs c.exhaust.new.pairs c.args.self.now
    c.args.half.key c.args.half.side c.args.divided c.index.result.now c.self.view_is c.index.ensures
    c.unlink-self-inside.ensures.keeps c.exhaust.ensures.sets
