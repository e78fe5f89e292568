use Rattle.std.proofs.Common.{arith}
use Rattle.gpu_answers.proofs.Keeping.{kept-first}
use Rattle.gpu_answers.proofs.held.HeldObjects.forget_gone_after.Goals as goal

pub invariant_of-self : goal.invariant_of-self
invariant_of-self c =
    let less = c.truncate.ensures.len in
    rw (c.truncate.ensures.items, c.truncate.ensures.capacity) (kept-first _ _ _ _ _ c.self.invariant _ _ (omega (arith, less)))
