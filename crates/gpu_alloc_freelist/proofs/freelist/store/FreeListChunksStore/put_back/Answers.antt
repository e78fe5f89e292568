use Rattle.std.proofs.Common.{ap}
use Rattle.gpu_alloc_base.proofs.InHand.{return_removes}
use Rattle.gpu_alloc_base.proofs.Slots.{slot_exact, slot_total}
use Rattle.gpu_alloc_freelist.specs.FreeListState.{ListSpace, bytes_of}
use Rattle.gpu_alloc_freelist.proofs.GoneChunks.{sound_without_slot}
use Rattle.gpu_alloc_freelist.proofs.freelist.store.FreeListChunksStore.put_back.Goals as goal

pub invariant_of-self : goal.invariant_of-self
invariant_of-self g c = rw (c.insert_block.ensures.back) (sound_without_slot _ c.args.returned c.self.invariant)

pub returns-clause-removed : goal.returns-clause-removed
returns-clause-removed g c block is = rw (is.0) (return_removes slot_total slot_exact bytes_of _ c.args.returned _ (rw (← c.self.view_is) (ap (λ (s : ListSpace). s.live) c.insert_block.ensures.back)) is.1)
