-- What setup lines describe.
use Rattle.gpu_alloc_types.specs.Properties.{Properties}
use Rattle.gpu_script_language.specs.declared.setup.Setup.{Setup}

-- what the device offers
abbrev pub offered : {A : Type 0} → Setup A → Properties
offered s = record {
  memory_types = s.memory_types.items;
  memory_heaps = s.memory_heaps.items;
  max_memory_allocation_count = s.max_memory_allocation_count;
  max_memory_allocation_size = s.max_memory_allocation_size;
  non_coherent_atom_size = s.non_coherent_atom_size;
  buffer_device_address = s.buffer_device_address;
}
