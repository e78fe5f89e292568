-- What a device offers, as a value without references.
use Rattle.std.specs.Prelude.{ℕ, ◌<◌, ◌≤◌, ◌^◌, Bool, List, length, All, Option, Some, None, IsTrue, slice_get, not}
use Rattle.std.specs.Prelude.{◌&&◌, cond}
use Rattle.std.specs.Int.{is_power_of_two}
use Rattle.gpu_alloc_types.specs.Flags.{property_bits, has_bit, has_all_bits, host_visible, host_coherent}
use Rattle.gpu_alloc_types.specs.declared.types.MemoryType.{MemoryType}
use Rattle.gpu_alloc_types.specs.declared.types.MemoryHeap.{MemoryHeap}
use Rattle.gpu_alloc_types.specs.declared.types.DeviceProperties.{DeviceProperties}

pub record Properties : Type 0 where
  pub memory_types : List MemoryType
  pub memory_heaps : List MemoryHeap
  pub max_memory_allocation_count : ℕ
  pub max_memory_allocation_size : ℕ
  pub non_coherent_atom_size : ℕ
  pub buffer_device_address : Bool

abbrev pub properties_of : DeviceProperties → Properties
properties_of d = record {
  memory_types = d.memory_types.now;
  memory_heaps = d.memory_heaps.now;
  max_memory_allocation_count = d.max_memory_allocation_count;
  max_memory_allocation_size = d.max_memory_allocation_size;
  non_coherent_atom_size = d.non_coherent_atom_size;
  buffer_device_address = d.buffer_device_address;
}

-- an allocator can be built on these
pub record IsUsable (p : Properties) : Type 0 where
  pub types : length p.memory_types ≤ 32
  pub heaps : length p.memory_heaps < 2 ^ 32
  pub heap_known : All (λ t. t.heap < length p.memory_heaps) p.memory_types
  pub atom_bound : p.non_coherent_atom_size ≤ 2 ^ 62
  pub atom : IsTrue (is_power_of_two p.non_coherent_atom_size)

-- the property bits of a memory type, 0 where there is no such type
abbrev pub bits_of : Option MemoryType → ℕ
bits_of None = 0
bits_of (Some t) = property_bits t.props

abbrev pub props_at : Properties → ℕ → ℕ
props_at p t = bits_of (slice_get p.memory_types t)

-- there is a memory type with index t among the first 32, and it has all of these flags
abbrev pub HasAllOf : Properties → ℕ → ℕ → Type 0
HasAllOf p flags t = (t < length p.memory_types) × (t < 32) × IsTrue (has_all_bits (props_at p t) flags)

-- the index of a memory type's heap, 0 where there is no such type
abbrev pub heap_of : Option MemoryType → ℕ
heap_of None = 0
heap_of (Some t) = t.heap

abbrev pub heap_at : Properties → ℕ → ℕ
heap_at p t = heap_of (slice_get p.memory_types t)

-- the size of a heap, 0 where there is no such heap
abbrev pub size_of : Option MemoryHeap → ℕ
size_of None = 0
size_of (Some heap) = heap.size

-- the size of a memory type's heap
abbrev pub heap_size : Properties → ℕ → ℕ
heap_size p t = size_of (slice_get p.memory_heaps (heap_at p t))

abbrev pub is_host_visible : Properties → ℕ → Bool
is_host_visible p t = has_bit (props_at p t) host_visible

abbrev pub is_coherent : Properties → ℕ → Bool
is_coherent p t = has_bit (props_at p t) host_coherent

-- memory with these property bits is host-visible and needs flushes and invalidates
abbrev pub are_non_coherent : ℕ → Bool
are_non_coherent bits = has_bit bits host_visible && not (has_bit bits host_coherent)

abbrev pub is_non_coherent : Properties → ℕ → Bool
is_non_coherent p t = are_non_coherent (props_at p t)

-- the atom of memory with these property bits: its ranges are rounded to multiples of it
abbrev pub atom_for : Properties → ℕ → ℕ
atom_for p bits = cond (are_non_coherent bits) p.non_coherent_atom_size 1

abbrev pub atom_of : Properties → ℕ → ℕ
atom_of p t = atom_for p (props_at p t)
