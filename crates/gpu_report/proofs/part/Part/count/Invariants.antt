use Rattle.std.proofs.Common.{◌≡◌, ◌≤◌, map, take, length}
use Rattle.gpu_alloc.specs.Spans.{held_entry_of}
use Rattle.gpu_report.specs.Held.{held_as}
use Rattle.gpu_report.proofs.part.Part.count.Given as goal

abbrev pub invariant-loop-row : goal.invariant-loop-row
invariant-loop-row l = record { is : l.count ≡ length (held_as (map held_entry_of (take l.row-index l.held)) l.self); few : l.count ≤ l.row-index }
