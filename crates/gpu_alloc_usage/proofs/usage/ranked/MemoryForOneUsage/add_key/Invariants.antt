use Rattle.std.proofs.Common.{◌≡◌, ◌++◌, take}
use Rattle.gpu_alloc_types.specs.Flags.{usage_bits}
use Rattle.gpu_alloc_usage.specs.KeyByKey.{of_key}
use Rattle.gpu_alloc_usage.specs.Ranked.{ranked_types}
use Rattle.gpu_alloc_usage.proofs.usage.ranked.MemoryForOneUsage.add_key.Given as goal

abbrev pub invariant-loop-index : goal.invariant-loop-index
invariant-loop-index l = ranked_types l.self ≡ ranked_types l.fn.self ++ of_key (usage_bits l.usage) l.key 0 (take l.index l.memory_types)
