use Rattle.gpu_alloc_block.proofs.ByteCalls.{may_be_moved}
use Rattle.std.proofs.Common.{arith}
use Rattle.gpu_alloc_base.proofs.Names.{here}
use Rattle.gpu_alloc_block.specs.Agreement.{BlockAgrees, IsOfBlock}
use Rattle.gpu_alloc_block.proofs.laws.bytes_of_a_mapping_may_be_moved.Goals as goal

pub returns : goal.returns
unfolding BlockAgrees
returns g c = record {
  inside = λ p objects m place len agrees is some low high. may_be_moved _ c.keeps_end.ensures.some p objects agrees m is place len some low high;
  finish = λ p objects m agrees is. let of_block = here _ (IsOfBlock _) agrees.mapping m is in omega (arith, of_block.to, c.keeps_end.ensures.finish);
}
