use Rattle.std.proofs.Common.{◌≡◌, ℕ, ◌<◌, length, Some, slice_get}
use Rattle.gpu_alloc.specs.State.{ledger}
use Rattle.gpu_session.proofs.session.Session.ledgers.Given as goal

abbrev pub invariant-loop-heap : goal.invariant-loop-heap
invariant-loop-heap g l = record {
  count : length l.used.items ≡ l.heap;
  each : (k : ℕ) → k < l.heap → slice_get l.used.items k ≡ Some (ledger l.self.books.allocator k);
}
