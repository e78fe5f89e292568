use Rattle.std.proofs.Common.{ap, refl}
use Rattle.gpu_alloc_block.specs.State.{State}
use Rattle.gpu_alloc.proofs.MayAsk.{may_ask_agrees, may_ask_leaves}
use Rattle.gpu_alloc.proofs.allocator.GpuAllocator.set_remaining_allocations.Goals as goal

pub returns-clause-leaves : goal.returns-clause-leaves
returns-clause-leaves g c = may_ask_leaves c.args.self.now _ c.args.remaining (c.args.self.now).heap_limits (ap (λ (s : State). record s { remaining = c.args.remaining }) c.self.view_is) refl

pub returns-clause-agrees : goal.returns-clause-agrees
returns-clause-agrees g c = may_ask_agrees c.args.self.now _ c.args.remaining (c.args.self.now).heap_limits (ap (λ (s : State). record s { remaining = c.args.remaining }) c.self.view_is)
