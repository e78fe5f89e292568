use Rattle.gpu_answers.proofs.Keeping.{kept-none}
use Rattle.gpu_answers.proofs.held.HeldObjects.new.Goals as goal

pub invariant_of-result : goal.invariant_of-result
invariant_of-result c = rw (c.new.ensures.objects, c.new-2.ensures.len, c.new-2.ensures.items) (kept-none _)
