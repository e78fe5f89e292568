-- The ranking, computed key by key.
use Rattle.std.specs.Prelude.{ℕ, zero, suc, ◌+◌, ◌==◌, Bool, ◌&&◌, if◌then◌else◌, List, [], ◌∷◌, ◌++◌}
use Rattle.gpu_alloc_types.specs.Flags.{property_bits}
use Rattle.gpu_alloc_types.specs.declared.types.MemoryType.{MemoryType}
use Rattle.gpu_alloc_usage.specs.Ranking.{compatible, key}

-- memory may serve a usage, and has this key
abbrev pub has_key : ℕ → ℕ → MemoryType → Bool
has_key usage k t = compatible usage (property_bits t.props) && (key usage (property_bits t.props) == k)

-- the indices of the compatible types of one key, rising, where the first type has index i
unfoldable pub of_key : ℕ → ℕ → ℕ → List MemoryType → List ℕ
of_key usage k i [] = []
of_key usage k i (t ∷ ts) = if has_key usage k t then i ∷ of_key usage k (i + 1) ts else of_key usage k (i + 1) ts

-- those of the keys below m, by key and then by index
unfoldable pub below_key : ℕ → List MemoryType → ℕ → List ℕ
below_key usage types zero = []
below_key usage types (suc m) = below_key usage types m ++ of_key usage m 0 types
