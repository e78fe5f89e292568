use Rattle.std.proofs.Common.{◌≡◌, ◌≤◌, length, map, take, vec_len, vec_capacity}
use Rattle.gpu_alloc_freelist.proofs.FreeListRanges.{range_of}
use Rattle.gpu_alloc_freelist.proofs.freelist.FreeListAllocator.free_ranges.Given as goal

-- that many were listed, in room for all
abbrev pub invariant-loop-region : goal.invariant-loop-region
invariant-loop-region g l = (l.ranges.items ≡ map (range_of l.fn.self.space) (take l.region-index l.regions)) × ((vec_len l.ranges ≡ l.region-index) × (length l.regions ≤ vec_capacity l.ranges))
