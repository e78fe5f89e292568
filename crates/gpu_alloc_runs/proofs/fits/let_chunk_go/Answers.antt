use Rattle.std.proofs.Common.{None, refl}
use Rattle.gpu_alloc_runs.specs.Inside.{chunk_size_in}
use Rattle.gpu_alloc_runs.proofs.Chunks.{ended, resized}
use Rattle.gpu_alloc_runs.proofs.Filed.{free_goes}
use Rattle.gpu_alloc_runs.proofs.fits.let_chunk_go.Goals as goal

pub returns-clause-kept : goal.returns-clause-kept
returns-clause-kept g c =
    ended (chunk_size_in c.args.chunks.now) (chunk_size_in c.remove-memory.new.self) c.args.tiles.now c.remove.new.self c.args.key c.args.chunk c.requires.kept c.requires.whole
    (resized c.args.chunks.now c.remove-memory.new.self c.args.chunk 0 None c.remove-memory.ensures.updates refl) c.remove.ensures.updates

pub returns-clause-filed : goal.returns-clause-filed
returns-clause-filed g c classes = free_goes c.args.tiles.now c.remove.new.self classes c.args.key c.remove.ensures.updates
