use Rattle.std.proofs.Common.{arith}
use Rattle.gpu_alloc_tests.proofs.WholeAtoms.{up_fits}
use Rattle.gpu_alloc_tests.proofs.tests.exact.Exact.refusal.Goals as goal

pub refuses-requires-clause-fits : goal.refuses-requires-clause-fits
refuses-requires-clause-fits g c = let sound = c.self.invariant.1.1.1.0 in up_fits _ _ _ sound.atom sound.final_chunk.0 (omega arith)
