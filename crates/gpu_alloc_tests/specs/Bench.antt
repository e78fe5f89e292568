-- What an allocator was offered that stands on a bench.
use Rattle.std.specs.Prelude.{◌≡◌, ℕ, ◌<◌, length}
use Rattle.gpu_alloc_types.specs.Properties.{Properties, props_at}

-- a heap and two memory types, of which the first has these property bits
pub record HasTwoTypes (p : Properties) (bits : ℕ) : Type 0 where
  pub heap : 0 < length p.memory_heaps
  pub first : 0 < length p.memory_types
  pub second : 1 < length p.memory_types
  pub props : bits ≡ props_at p 0
