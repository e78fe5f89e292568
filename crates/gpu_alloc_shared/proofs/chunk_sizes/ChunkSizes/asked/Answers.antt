use Rattle.std.proofs.Common.{◌≡◌, ◌+◌, ◌-◌, arith}
use Rattle.std.specs.Prelude.{max}
use Rattle.gpu_alloc_base.specs.Sizes.{up}
use Rattle.gpu_alloc_shared.proofs.Sized.{ask_is_whole}
use Rattle.gpu_alloc_shared.proofs.chunk_sizes.ChunkSizes.asked.Goals as goal

pub returns-clause-whole : goal.returns-clause-whole
returns-clause-whole c =
    let atom = c.args.self.now.atom_mask + 1 in
    let size : c.rounded_size.result ≡ up c.args.size atom = c.rounded_size.ensures in
    let mask : c.max.result ≡ max c.args.align_mask (atom - 1) = omega (arith, c.max.ensures) in
    rw (size, mask) (ask_is_whole c.args.self.now.final_chunk_size atom c.args.size c.args.align_mask c.requires.sizes.power c.requires.serves)
