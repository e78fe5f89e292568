use Rattle.std.proofs.Common.{◌≡◌, map, take}
use Rattle.gpu_alloc.specs.Spans.{held_entry_of}
use Rattle.gpu_report.specs.Free.{free_sizes}
use Rattle.gpu_report.proofs.part.Part.free_sizes.Given as goal

abbrev pub invariant-loop-range : goal.invariant-loop-range
invariant-loop-range l = l.sizes.items ≡ free_sizes (map held_entry_of l.held) l.self (take l.range-index l.free)
