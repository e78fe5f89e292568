-- A block that is the tail of a run, in the stores of a free list.
use Rattle.std.proofs.Common.{◌≡◌, ℕ, ◌+◌, ◌<◌, List, get_or, Some, sym, ◌∙◌, ap, arith}
use Rattle.std.specs.FinMap as map
use Rattle.std.specs.FinSet as set
use Rattle.gpu_alloc_base.specs.Accounts.{HeldChunks}
use Rattle.gpu_alloc_base.specs.Chunks.{Chunk}
use Rattle.gpu_alloc_base.specs.FreeRuns.{AreRuns}
use Rattle.gpu_alloc_base.specs.Slots.{slot_cmp}
use Rattle.gpu_alloc_base.specs.declared.free_list_block.Slot.{Slot}
use Rattle.gpu_alloc_base.specs.declared.region.FreeListRegion.{FreeListRegion}
use Rattle.gpu_alloc_freelist.specs.FreeListInside.{list_space_in}
use Rattle.gpu_alloc_freelist.specs.FreeListSound.{IsSoundListSpace}
use Rattle.gpu_alloc_freelist.specs.FreeListState.{IsFreeIn}
use Rattle.gpu_alloc_freelist.specs.Runs.{Cuts}
use Rattle.gpu_alloc_freelist.specs.Wholes.{is_whole, wholes}
use Rattle.gpu_alloc_freelist.proofs.FreeListGrants.{IsTailOf, IsTaken, tail_end, tail_some, tail_taken, tail_within}
use Rattle.gpu_alloc_freelist.proofs.FreeListReturns.{region_inside}
use Rattle.gpu_alloc_freelist.proofs.RunsKept.{cut_beside}
use Rattle.gpu_alloc_freelist.proofs.WholeCounts.{one}
use Rattle.gpu_alloc_freelist.proofs.WholeRuns.{wholes_cut}

module _ (held : HeldChunks) (live : set.FinSet slot_cmp) (latest : ℕ) (regions new : List FreeListRegion) (size alignment i : ℕ) (r : FreeListRegion) (slot : Slot) (chunk : Chunk)
    (sound : IsSoundListSpace (list_space_in held live latest)) (runs : AreRuns regions (IsFreeIn (list_space_in held live latest))) (of : IsTailOf regions size alignment i r slot)
    (some : 0 < size) (is_held : map.get held r.chunk ≡ Some chunk) (object : slot.object ≡ chunk.object) (cuts : Cuts regions i slot.offset new) where
  -- its run loses it
  pub cut_taken : IsTaken (list_space_in held live latest) new slot
  cut_taken =
      let within = tail_within regions size alignment i r slot of some in
      tail_taken regions size alignment i r slot of (list_space_in held live latest) runs chunk is_held object new some sound
      (λ d. cut_beside (IsFreeIn (list_space_in held live latest)) regions new i slot.offset d runs of.found.0 (within d).0 (within d).1 cuts)

  -- and is no whole chunk any more
  pub cut_counts : wholes held new + one (is_whole held) r ≡ wholes held regions
  cut_counts =
      let here : get_or regions i r ≡ r = sym of.region in
      let inside = region_inside (list_space_in held live latest) sound regions runs r chunk (i, of.found.0, here) is_held in
      let less = wholes_cut held regions new i slot.offset r chunk of.found.0 (ap (λ (q : FreeListRegion). map.get held q.chunk) here ∙ is_held)
      (omega (arith, inside, tail_end regions size alignment i r slot of, tail_some regions size alignment i r slot of some)) cuts in
      omega (arith, less, ap (one (is_whole held)) here)
