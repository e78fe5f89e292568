use Rattle.std.proofs.Common.{arith}
use Rattle.gpu_alloc_tests.proofs.WholeAtoms.{up_fits}
use Rattle.gpu_alloc_tests.proofs.tests.exact.Exact.grant.Goals as goal

pub alloc-requires-clause-fits : goal.alloc-requires-clause-fits
alloc-requires-clause-fits g c = let sound = c.self.invariant.1.1.1.0 in up_fits _ _ _ sound.atom sound.final_chunk.0 (omega arith)
