-- The initial chunk sizes of memory types.
use Rattle.std.specs.Prelude.{List, map, max, slice_get}
use Rattle.gpu_alloc_types.specs.Flags.{property_bits}
use Rattle.gpu_alloc_types.specs.Properties.{Properties, size_of, atom_for}
use Rattle.gpu_alloc_types.specs.declared.types.MemoryType.{MemoryType}
use Rattle.gpu_alloc_base.specs.Sizes.{minimal_size, initial_size, starting_size}
use Rattle.gpu_alloc.specs.FitSharing.{grain}
use Rattle.gpu_alloc_block.specs.State.{TypeState}
use Rattle.gpu_alloc_base.specs.declared.config.Config.{Config}

-- a memory type's initial chunk sizes: no free-list chunk has a number yet
abbrev pub first_type_state : Config → Properties → MemoryType → TypeState
first_type_state c p t =
    let heap = size_of (slice_get p.memory_heaps t.heap) in
    let atom = atom_for p (property_bits t.props) in
    record {
      next_chunk = max (initial_size c heap) (minimal_size c heap);
      list_chunk = starting_size c heap atom;
      number = 0;
      fit_chunk = starting_size c heap (grain atom);
    }

abbrev pub first_types : Config → Properties → List TypeState
first_types c p = map (first_type_state c p) p.memory_types
