use Rattle.std.proofs.Common.{List, [], ◌∷◌}
use Rattle.gpu_alloc_types.specs.Device.{Range}
use Rattle.gpu_alloc_tests.proofs.Ready.{after_flush}
use Rattle.gpu_alloc_tests.proofs.tests.sim_bytes.Mapped.flush_two.Goals as goal

pub invariant_of-self : goal.invariant_of-self
invariant_of-self c =
    let name = c.self.inside.memory in
    let two : List Range = record { object = name; offset = 5; size = 1 } ∷ record { object = name; offset = 2; size = 1 } ∷ [] in
    let mid = c.flush_memory_ranges.new.self in
    after_flush mid c.flush_memory_ranges-2.new.self name [] c.flush_memory_ranges-2.result c.flush_memory_ranges-2.ensures
    (after_flush c.self.inside.sim mid name two c.flush_memory_ranges.result c.flush_memory_ranges.ensures c.self.invariant)
