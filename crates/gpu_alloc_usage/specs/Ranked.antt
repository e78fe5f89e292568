-- The ranked types of one usage.
use Rattle.std.specs.Prelude.{ℕ, List, take}
use Rattle.gpu_alloc_usage.specs.declared.usage.ranked.MemoryForOneUsage.{MemoryForOneUsage}

-- the indices of the types, the best first
abbrev pub ranked_types : MemoryForOneUsage → List ℕ
ranked_types row = take row.count row.types
