use Rattle.gpu_alloc_block.proofs.ByteCalls.{allocator_moved, block_moved}
use Rattle.gpu_alloc_block.proofs.laws.byte_calls_keep_each_agreement.Goals as goal

pub returns : goal.returns
returns g c = λ s. record {
  allocator = λ old e made moves. allocator_moved _ _ _ _ e moves (g.met.D.ObjectDevice.keeps_properties _ _ _ made) (g.met.D.ObjectDevice.row _ _ _ made) s;
  blocks = λ b old e made moves. block_moved _ _ _ _ e moves (g.met.D.ObjectDevice.keeps_properties _ _ _ made) (g.met.D.ObjectDevice.row _ _ _ made) b;
}
