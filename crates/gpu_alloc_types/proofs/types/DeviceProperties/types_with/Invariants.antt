use Rattle.std.proofs.Common.{◌≡◌, ◌↔◌, ℕ, IsTrue, ◌<◌}
use Rattle.std.specs.Int.{bit_at}
use Rattle.gpu_alloc_types.specs.Flags.{property_bits, has_all_bits}
use Rattle.gpu_alloc_types.specs.Properties.{props_at, properties_of}
use Rattle.gpu_alloc_types.proofs.types.DeviceProperties.types_with.Given as goal

abbrev pub invariant-loop-index : goal.invariant-loop-index
invariant-loop-index l = (t : ℕ) →
    (bit_at l.mask t ≡ 1) ↔ (t < l.index) × IsTrue (has_all_bits (props_at (properties_of l.self) t) (property_bits l.flags))
