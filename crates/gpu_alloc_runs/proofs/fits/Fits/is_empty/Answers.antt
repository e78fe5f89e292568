use Rattle.std.proofs.lemmas.Bool.Decides.{Decides-eqb}
use Rattle.slab.specs.Slab.{slab_len}
use Rattle.gpu_alloc_runs.proofs.Neighbours.{no_chunk, no_row}
use Rattle.gpu_alloc_runs.proofs.fits.Fits.is_empty.Goals as goal

pub returns : goal.returns
returns g c =
    let test = Decides-eqb (slab_len c.self.inside.chunks) 0 in
    rw (← c.self.view_is, c.is_empty.ensures) (
      λ none. no_chunk g.M.MemoryObject.object c.self.inside.chunks (test.0 none),
      λ none. test.1 (no_row g.M.MemoryObject.object c.self.inside.chunks none),
    )
