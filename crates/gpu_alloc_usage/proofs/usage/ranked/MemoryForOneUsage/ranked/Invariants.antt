use Rattle.std.proofs.Common.{◌≡◌}
use Rattle.gpu_alloc_types.specs.Flags.{usage_bits}
use Rattle.gpu_alloc_usage.specs.KeyByKey.{below_key}
use Rattle.gpu_alloc_usage.specs.Ranked.{ranked_types}
use Rattle.gpu_alloc_usage.proofs.usage.ranked.MemoryForOneUsage.ranked.Given as goal

abbrev pub invariant-loop-key : goal.invariant-loop-key
invariant-loop-key l = ranked_types l.ranked ≡ below_key (usage_bits l.usage) l.memory_types l.key
