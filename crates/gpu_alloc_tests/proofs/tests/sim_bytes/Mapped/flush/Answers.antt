use Rattle.std.proofs.Common.{[], ◌∷◌}
use Rattle.gpu_alloc_tests.proofs.Ready.{after_flush}
use Rattle.gpu_alloc_tests.proofs.tests.sim_bytes.Mapped.flush.Goals as goal

pub invariant_of-self : goal.invariant_of-self
invariant_of-self g c =
    after_flush c.self.inside.sim c.flush_memory_ranges.new.self c.self.inside.memory
    (record { object = c.self.inside.memory; offset = c.args.offset; size = c.args.size } ∷ []) c.flush_memory_ranges.result c.flush_memory_ranges.ensures c.self.invariant
