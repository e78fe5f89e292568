use Rattle.std.proofs.Common.{◌<◌, ◌≤◌, ◌-◌, ℕ, length, slice_index_or}
use Rattle.gpu_alloc_base.specs.Slots.{region_of}
use Rattle.gpu_alloc_base.specs.declared.region.FreeListRegion.{FreeListRegion}
use Rattle.gpu_alloc_freelist.specs.Runs.{AreFewComparisons, StartsBefore}
use Rattle.gpu_alloc_freelist.proofs.RunSearch.{IsHalved}
use Rattle.gpu_alloc_freelist.proofs.freelist.runs.place_of.Given as goal

-- those before the window come before the block, those after it do not, and it halves with each comparison
abbrev pub invariant-loop-low : goal.invariant-loop-low
invariant-loop-low g l = record {
  window : l.low ≤ l.high;
  within : l.high ≤ length l.regions;
  before : (k : ℕ) (d : FreeListRegion) → k < l.low → StartsBefore (slice_index_or l.regions k d) (region_of l.block);
  behind : (k : ℕ) (d : FreeListRegion) → l.high ≤ k → k < length l.regions → StartsBefore (slice_index_or l.regions k d) (region_of l.block) → ⊥;
  counted : l.fn.steps ≤ l.steps;
  some : l.high - l.low < length l.regions → l.fn.steps < l.steps;
  halved : IsHalved (length l.regions) l.fn.steps l.steps (l.high - l.low);
  few : AreFewComparisons (length l.regions) l.fn.steps l.steps;
}

abbrev pub decreases-loop-low : goal.decreases-loop-low
decreases-loop-low g l = l.high - l.low
