-- Samples on which definitions are computed.
use Rattle.std.specs.Prelude.{ℕ, [], ◌∷◌, false}
use Rattle.gpu_alloc_types.specs.Properties.{Properties}
use Rattle.gpu_alloc_base.specs.declared.config.Config.{Config}
use Rattle.gpu_alloc.specs.declared.request.Request.{Request}
use Rattle.gpu_alloc_base.specs.Config.{potato}
use Rattle.gpu_alloc.specs.Opening.{opened, opened_by}
use Rattle.gpu_alloc_block.specs.State.{State}
use Rattle.gpu_alloc_block.specs.declared.sharing.Sharing.TheVariants.{Fit}

-- a device with one memory type in one heap
abbrev pub one_type : ℕ → ℕ → ℕ → Properties
one_type heap bits atom = record {
  memory_types = record { heap = 0; props = record { bits = bits } } ∷ [];
  memory_heaps = record { size = heap } ∷ [];
  max_memory_allocation_count = 4096;
  max_memory_allocation_size = 1073741824;
  non_coherent_atom_size = atom;
  buffer_device_address = false;
}

-- an allocator with the potato's sizes, for a device with one type
abbrev pub potato_for_one_type : ℕ → ℕ → ℕ → State
potato_for_one_type heap bits atom = opened potato (one_type heap bits atom)

-- the same where fit chunks are chosen
abbrev pub fits_over : ℕ → ℕ → ℕ → State
fits_over heap bits atom = opened_by Fit potato (one_type heap bits atom)

-- a request for this many bytes of that type, for a usage
abbrev pub bytes_for : ℕ → ℕ → Request
bytes_for size usage = record { size = size; align_mask = 0; usage = record { bits = usage }; memory_types = 1 }

-- a configuration with only these two sizes
abbrev pub buddy_config : ℕ → ℕ → Config
buddy_config minimal initial = record {
  dedicated_threshold = 0;
  preferred_dedicated_threshold = 0;
  transient_dedicated_threshold = 0;
  starting_free_list_chunk = 0;
  final_free_list_chunk = 0;
  minimal_buddy_size = minimal;
  initial_buddy_dedicated_size = initial;
}
