use Rattle.std.proofs.Common.{◌≡◌, ◌<◌, ℕ, get_or, true}
use Rattle.gpu_alloc_types.specs.Properties.{heap_size}
use Rattle.gpu_alloc_types.specs.Flags.{usage_bits}
use Rattle.gpu_alloc_usage.specs.Ranking.{is_allowed, named, ranking}
use Rattle.gpu_alloc.proofs.allocator.GpuAllocator.can_ever_serve.Given as goal

-- no candidate so far has a heap so large
abbrev pub invariant-loop-rank : goal.invariant-loop-rank
invariant-loop-rank g l = (k : ℕ) → k < l.rank
    → is_allowed l.request.memory_types (get_or (ranking (named (usage_bits l.usage)) l.self.properties.memory_types) k 0) ≡ true
    → heap_size l.self.properties (get_or (ranking (named (usage_bits l.usage)) l.self.properties.memory_types) k 0) < l.request.size
