use Rattle.std.proofs.Common.{◌≡◌, ◌≤◌, length, vec_capacity}
use Rattle.gpu_alloc_types.specs.Properties.{properties_of}
use Rattle.gpu_alloc.specs.Opening.{AreFirst}
use Rattle.gpu_alloc.proofs.allocator.stores.empty_stores.Given as goal

-- the memory types so far have theirs
abbrev pub invariant-loop-memory_type : goal.invariant-loop-memory_type
invariant-loop-memory_type g l = record {
  count : length l.types.items ≡ l.memory_type;
  room : l.count ≤ vec_capacity l.types;
  each : AreFirst l.sharing l.config (properties_of l.props) l.types.items;
}
