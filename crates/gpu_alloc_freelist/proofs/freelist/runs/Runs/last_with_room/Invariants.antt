use Rattle.std.proofs.Common.{◌≤◌, ◌<◌, ◌+◌, ℕ, length, slice_index_or}
use Rattle.gpu_alloc_base.specs.FreeRuns.{HasRoom}
use Rattle.gpu_alloc_base.specs.declared.region.FreeListRegion.{FreeListRegion}
use Rattle.gpu_alloc_freelist.proofs.freelist.runs.Runs.last_with_room.Given as goal

-- none from the end of those that are left on has room
abbrev pub invariant-loop-end : goal.invariant-loop-end
invariant-loop-end g l = record {
  within : l.end ≤ length l.regions;
  none_behind : (k : ℕ) (d : FreeListRegion) → l.end ≤ k → k < length l.regions
      → HasRoom l.size (l.align_mask + 1) (slice_index_or l.regions k d).start (slice_index_or l.regions k d).end → ⊥;
}

abbrev pub decreases-loop-end : goal.decreases-loop-end
decreases-loop-end g l = l.end
