use Rattle.std.proofs.Common.{◌+◌, arith, sym}
use Rattle.gpu_alloc_base.proofs.ChunkSizes.{up_within}
use Rattle.gpu_alloc_shared.proofs.chunk_sizes.ChunkSizes.fits_a_chunk.Goals as goal

pub returns : goal.returns
returns c = sym (up_within c.args.size (c.args.self.now.atom_mask + 1) c.args.self.now.final_chunk_size (omega arith) c.requires.final_chunk.0)
