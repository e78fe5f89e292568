use Rattle.std.proofs.Common.{◌∙◌, ap}
use Rattle.std.specs.FinMap as map
use Rattle.gpu_alloc_block.specs.State.{State}
use Rattle.gpu_alloc.specs.Whole.{whole}
use Rattle.gpu_alloc.proofs.Linked.{consistent}
use Rattle.gpu_alloc.proofs.Closing.{all_empty}
use Rattle.gpu_alloc.proofs.allocator.GpuAllocator.close.Goals as goal

pub close_stores-requires : goal.close_stores-requires
close_stores-requires g c = all_empty _ _ _ (whole c.self.inside.own c.self.inside.types.items) (ap (λ (s : State). map.len s.held) c.self.view_is ∙ c.requires) _ (consistent _ _ _ _ _ _ _ c.self.invariant).shared
