-- How contracts see what a device offers as a value.
use Rattle.std.specs.Prelude.{ℕ, Bool, List, refl}
use Rattle.std.specs.Coded.{Coded, code_by, coded×, coded_ℕ, coded_list, coded_bool}
use Rattle.gpu_alloc_types.specs.Flags.{property_bits}
use Rattle.gpu_alloc_types.specs.Properties.{Properties}
use Rattle.gpu_alloc_types.specs.declared.types.MemoryType.{MemoryType}
use Rattle.gpu_alloc_types.specs.declared.types.MemoryHeap.{MemoryHeap}

abbrev pub type_code : Coded MemoryType
type_code =
    code_by (ℕ × ℕ) (coded× coded_ℕ coded_ℕ) (λ t. (t.heap, property_bits t.props))
    (λ c. record { heap = c.0; props = record { bits = c.1 } }) (λ _. refl)

abbrev pub heap_code : Coded MemoryHeap
heap_code = code_by ℕ coded_ℕ (λ h. h.size) (λ n. record { size = n }) (λ _. refl)

abbrev pub properties_code : Coded Properties
properties_code =
    code_by (List MemoryType × (List MemoryHeap × ((ℕ × ℕ) × (ℕ × Bool))))
    (coded× (coded_list type_code)
    (coded× (coded_list heap_code) (coded× (coded× coded_ℕ coded_ℕ) (coded× coded_ℕ coded_bool))))
    (λ p. (
      p.memory_types,
      (
        p.memory_heaps,
        (
          (p.max_memory_allocation_count, p.max_memory_allocation_size),
          (p.non_coherent_atom_size, p.buffer_device_address),
        ),
      ),
    ))
    (λ c. record {
      memory_types = c.0;
      memory_heaps = c.1.0;
      max_memory_allocation_count = c.1.1.0.0;
      max_memory_allocation_size = c.1.1.0.1;
      non_coherent_atom_size = c.1.1.1.0;
      buffer_device_address = c.1.1.1.1;
    })
    (λ _. refl)
