use Rattle.std.proofs.Common.{ℕ, List}
use Rattle.gpu_alloc_types.specs.Device.{Event, Chain}
use Rattle.gpu_alloc.proofs.Cleanups.{IsCleaning}
use Rattle.gpu_alloc.proofs.allocator.GpuAllocator.cleanup.Given as goal

-- what may go of the memory types before this one went
abbrev pub invariant-loop-memory_type : goal.invariant-loop-memory_type
invariant-loop-memory_type g l =
    (gone : List ℕ) × (es : List Event) × Chain g.D.ObjectDevice.step l.fn.device es l.device
    × IsCleaning l.fn.self (g.D.ObjectDevice.objects l.fn.device) l.memory_type gone es l.self (g.D.ObjectDevice.properties l.device) (g.D.ObjectDevice.objects l.device)
