use Rattle.std.proofs.Common.{refl}
use Rattle.gpu_clients.proofs.resources.ResourceManager.destroy.Goals as goal

pub dealloc-requires-clause-owned : goal.dealloc-requires-clause-owned
dealloc-requires-clause-owned g c = c.self.invariant.kept.owned _ _ c.in-Some.ensures.takes.taken

pub returns-in-Some-clause-unchanged : goal.returns-in-Some-clause-unchanged
returns-in-Some-clause-unchanged g c never = absurd (never refl)
