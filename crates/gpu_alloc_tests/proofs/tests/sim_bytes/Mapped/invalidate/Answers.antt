use Rattle.std.proofs.Common.{[], ◌∷◌}
use Rattle.gpu_alloc_tests.proofs.Ready.{after_invalidate}
use Rattle.gpu_alloc_tests.proofs.tests.sim_bytes.Mapped.invalidate.Goals as goal

pub invariant_of-self : goal.invariant_of-self
invariant_of-self g c =
    after_invalidate c.self.inside.sim c.invalidate_memory_ranges.new.self c.self.inside.memory
    (record { object = c.self.inside.memory; offset = c.args.offset; size = c.args.size } ∷ []) c.invalidate_memory_ranges.result c.invalidate_memory_ranges.ensures c.self.invariant
