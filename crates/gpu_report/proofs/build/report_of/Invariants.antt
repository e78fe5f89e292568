use Rattle.std.proofs.Common.{map}
use Rattle.gpu_alloc.specs.Spans.{held_entry_of}
use Rattle.gpu_report.specs.Held.{parts}
use Rattle.gpu_report.specs.Report.{ArePartsTold}
use Rattle.gpu_report.proofs.build.report_of.Given as goal

abbrev pub invariant-loop-memory_type : goal.invariant-loop-memory_type
invariant-loop-memory_type g l = ArePartsTold l.allocator (map held_entry_of l.held.items) l.live.items (parts l.memory_type) l.kinds.items l.objects.items
