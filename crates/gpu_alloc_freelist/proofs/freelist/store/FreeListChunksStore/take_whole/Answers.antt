use Rattle.std.proofs.Common.{refl}
use Rattle.gpu_alloc_freelist.proofs.GoneChunks.{sound_without_chunk}
use Rattle.gpu_alloc_freelist.proofs.freelist.store.FreeListChunksStore.take_whole.Goals as goal

pub returns-in_err-memory-clause-none : goal.returns-in_err-memory-clause-none
returns-in_err-memory-clause-none g c = rw (c.from_residual.ensures, ← c.self.view_is, c.in_err-memory.ensures.none.1) ((λ number first. c.in_err-memory.ensures.none.0 number first.goes), refl)

pub invariant_of-self-2 : goal.invariant_of-self-2
invariant_of-self-2 g c = rw (c.in_ok-memory.ensures.gone) (sound_without_chunk _ c.in_ok-memory.field-0-2 c.self.invariant c.in_ok-memory.ensures.first.goes.0)
