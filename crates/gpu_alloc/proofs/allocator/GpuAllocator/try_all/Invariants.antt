use Rattle.std.proofs.Common.{◌≡◌, List}
use Rattle.gpu_alloc_types.specs.Device.{Event, Chain}
use Rattle.gpu_alloc_types.specs.Flags.{usage_bits}
use Rattle.gpu_alloc_usage.specs.Ranking.{is_allowed, named, ranking}
use Rattle.gpu_alloc.specs.Allocation.{asked_of}
use Rattle.gpu_alloc.proofs.Trials.{Continues}
use Rattle.gpu_alloc.proofs.allocator.GpuAllocator.try_all.Given as goal

-- the candidates so far were passed
abbrev pub invariant-loop-rank : goal.invariant-loop-rank
invariant-loop-rank g l = record {
  same : l.self ≡ l.fn.self;
  passed : (es : List Event) × Chain g.D.ObjectDevice.step l.fn.device es l.device
      × Continues l.fn.self (asked_of l.fn.self l.request l.hint l.paged) (is_allowed l.request.memory_types) (ranking (named (usage_bits l.usage)) l.fn.self.properties.memory_types) l.rank es;
  objects : g.D.ObjectDevice.objects l.device ≡ g.D.ObjectDevice.objects l.fn.device;
}
