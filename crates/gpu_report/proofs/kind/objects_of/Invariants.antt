use Rattle.std.proofs.Common.{◌≡◌, map, take, All}
use Rattle.gpu_alloc.specs.Spans.{held_entry_of}
use Rattle.gpu_report.specs.Held.{held_as}
use Rattle.gpu_report.specs.Report.{head_held, head_told, HasPlaces}
use Rattle.gpu_report.proofs.kind.objects_of.Given as goal

abbrev pub invariant-loop-row : goal.invariant-loop-row
invariant-loop-row l = record {
  heads : map head_told l.objects.items ≡ map head_held (held_as (map held_entry_of (take l.row-index l.held)) l.part);
  placed : All (HasPlaces l.live l.free) l.objects.items;
}
