use Rattle.std.proofs.Common.{arith}
use Rattle.gpu_answers.proofs.Keeping.{kept-first, taken_is_spent}
use Rattle.gpu_answers.proofs.held.HeldObjects.take_gone.Goals as goal

pub invariant_of-self : goal.invariant_of-self
invariant_of-self c =
    let less = c.pop.ensures.len in
    rw (c.pop.ensures.rest, c.pop.ensures.capacity) (kept-first _ _ _ _ _ c.self.invariant _ _ (omega (arith, less)))

pub returns-clause-spent : goal.returns-clause-spent
returns-clause-spent c =
    let kept = c.self.invariant in
    taken_is_spent c.self.inside.last_name c.self.inside.objects.objects c.self.inside.gone.items c.pop.new.self.items _ kept.used kept.once c.pop.ensures.items
