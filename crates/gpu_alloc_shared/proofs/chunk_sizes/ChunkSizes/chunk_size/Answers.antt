use Rattle.gpu_alloc_shared.proofs.Sized.{chunk_size_computed}
use Rattle.gpu_alloc_shared.proofs.chunk_sizes.ChunkSizes.chunk_size.Goals as goal

pub returns-clause-is : goal.returns-clause-is
returns-clause-is c =
    chunk_size_computed _ _ _ c.requires.sizes c.args.size c.next_power_of_two-multiple.result c.saturating_mul.result c.min.result c.requires.nonempty c.if-size-self.false
    c.next_power_of_two-multiple.ensures.is c.saturating_mul.ensures c.min.ensures
