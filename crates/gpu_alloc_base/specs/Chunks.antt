-- Chunks: shared objects that an allocator holds.
use Rattle.std.specs.Prelude.{◌≡◌, ℕ, Bool, Option, Some, None, IsTrue, cond}
use Rattle.gpu_alloc_types.specs.Device.{Object}

-- a held chunk: its object's name, and its size
pub record Chunk : Type 0 where
  pub object : ℕ
  pub size : ℕ

-- the name of the object of the chunk under a key or number, 0 where no chunk is held there
abbrev pub object_in : Option Chunk → ℕ
object_in None = 0
object_in (Some chunk) = chunk.object

-- the device holds a chunk: of its size and memory type, and mapped whole where it is host-visible
pub record IsThere (memory_type : ℕ) (visible : Bool) (chunk : Chunk) (o : Object) : Type 0 where
  pub of_type : o.memory_type ≡ memory_type
  pub of_size : o.size ≡ chunk.size
  pub mapped : IsTrue visible → o.mapped ≡ Some (0, o.size)

-- a chunk's object as it was made: of its size and memory type, and mapped whole exactly where it is host-visible
pub record IsNew (memory_type : ℕ) (visible : Bool) (chunk : Chunk) (o : Object) : Type 0 where
  pub of_type : o.memory_type ≡ memory_type
  pub of_size : o.size ≡ chunk.size
  pub mapped : o.mapped ≡ cond visible (Some (0, chunk.size)) None
