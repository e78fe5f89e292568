-- Which memory types are listed for a usage.
use Rattle.std.specs.Prelude.{◌≡◌, ℕ, Bool, List, length, take}
use Rattle.gpu_alloc_types.specs.Flags.{usage_bits}
use Rattle.gpu_alloc_types.specs.declared.usage_flags.UsageFlags.{UsageFlags}
use Rattle.gpu_alloc_usage.specs.Ranking.{candidates}
use Rattle.gpu_desk.specs.Calls.{lacks_address}
use Rattle.gpu_desk.specs.Desk.{DeskState}

-- the usage of some bits
abbrev pub usage_of : ℕ → UsageFlags
usage_of bits = record { bits = bits }

-- the memory types that serve a usage and are permitted, the best first
abbrev pub candidates_for : DeskState → (usage permitted : ℕ) → List ℕ
candidates_for s usage permitted = candidates s.allocator.properties.memory_types (usage_bits (usage_of usage)) permitted

-- the usage asks for an address, and the device lacks the feature
abbrev pub needs_feature : DeskState → ℕ → Bool
needs_feature s usage = lacks_address s (usage_of usage)

-- the memory types are written in their order, as many as there is room for
abbrev pub AreListed : List ℕ → List ℕ → Type 0
AreListed found told = take (length found) told ≡ take (length told) found
