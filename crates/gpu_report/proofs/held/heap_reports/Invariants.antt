use Rattle.std.proofs.Common.{◌≡◌, ℕ, ◌<◌, length, Some, slice_get}
use Rattle.gpu_report.specs.Report.{heap_told}
use Rattle.gpu_report.proofs.held.heap_reports.Given as goal

abbrev pub invariant-loop-heap : goal.invariant-loop-heap
invariant-loop-heap g l = record {
  count : length l.heaps.items ≡ l.heap;
  each : (k : ℕ) → k < l.heap → slice_get l.heaps.items k ≡ Some (heap_told l.allocator k);
}
