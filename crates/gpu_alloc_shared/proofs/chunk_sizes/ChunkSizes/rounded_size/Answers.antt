use Rattle.gpu_alloc_shared.proofs.Sized.{up_by_mask}
use Rattle.gpu_alloc_shared.proofs.chunk_sizes.ChunkSizes.rounded_size.Goals as goal

pub returns : goal.returns
returns c = up_by_mask c.args.size c.args.self.now.atom_mask c.requires.sizes.power c.requires.nonempty
