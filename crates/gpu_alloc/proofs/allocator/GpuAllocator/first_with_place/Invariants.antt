use Rattle.gpu_alloc_types.specs.Flags.{usage_bits}
use Rattle.gpu_alloc_usage.specs.Ranking.{is_allowed, named, ranking}
use Rattle.gpu_alloc.specs.Allocation.{asked_of}
use Rattle.gpu_alloc.proofs.HeldOnly.{LooksOn}
use Rattle.gpu_alloc.proofs.allocator.GpuAllocator.first_with_place.Given as goal

-- no candidate so far has a place
abbrev pub invariant-loop-rank : goal.invariant-loop-rank
invariant-loop-rank g l = LooksOn l.self (asked_of l.self l.request l.hint l.paged) (is_allowed l.request.memory_types) (ranking (named (usage_bits l.usage)) l.self.properties.memory_types) l.rank
