use Rattle.std.proofs.Common.{ℕ, ◌<◌, ◌≡◌, length, map, [], slice_index_or}
use Rattle.gpu_alloc_usage.specs.Ranking.{ranking}
use Rattle.gpu_alloc_usage.specs.Ranked.{ranked_types}
use Rattle.gpu_alloc_usage.proofs.usage.MemoryForUsage.new.Given as goal

abbrev pub invariant-loop-bits : goal.invariant-loop-bits
invariant-loop-bits l = (length l.usages ≡ 64) × ((usage : ℕ) → usage < l.bits → slice_index_or (map ranked_types l.usages) usage [] ≡ ranking usage l.memory_types)
