use Rattle.std.proofs.Common.{◌≡◌, ◌≤◌, filter, length, take}
use Rattle.std.specs.Vec.{vec_capacity}
use Rattle.gpu_alloc_usage.specs.Ranking.{is_allowed}
use Rattle.gpu_alloc.proofs.allocator.GpuAllocator.candidates.Given as goal

-- those of the types so far that are allowed
abbrev pub invariant-loop-rank : goal.invariant-loop-rank
invariant-loop-rank g l = record {
  allowed : l.types.items ≡ filter (is_allowed l.memory_types) (take l.rank l.ranked);
  few : length l.types.items ≤ l.rank;
  room : length l.ranked ≤ vec_capacity l.types;
}
