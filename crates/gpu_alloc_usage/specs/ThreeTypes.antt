-- A sample on which rankings are computed.
use Rattle.std.specs.Prelude.{List, [], ◌∷◌}
use Rattle.gpu_alloc_types.specs.declared.types.MemoryType.{MemoryType}

-- types that are DEVICE_LOCAL; HOST_VISIBLE and HOST_COHERENT; and these with HOST_CACHED
abbrev pub three_types : List MemoryType
three_types =
    record { heap = 0; props = record { bits = 1 } }
    ∷ record { heap = 0; props = record { bits = 6 } }
    ∷ record { heap = 0; props = record { bits = 14 } }
    ∷ []
