use Rattle.std.proofs.Common.{map}
use Rattle.gpu_alloc.specs.Spans.{held_entry_of}
use Rattle.gpu_report.proofs.statistics.statistics_of.Goals as goal

pub returns-clause-told : goal.returns-clause-told
returns-clause-told g c = record {
  held = map held_entry_of c.in_ok-held.held.items;
  are_held = c.in_ok-held.ensures.held;
  live = c.in-Some.live.items;
  are_live = rw c.in-Some.is at c.in_ok-live.ensures.live;
  given = rw c.in-Some.is at c.in_ok-live.ensures.given;
  dedicated = (c.in_ok-kind_report.ensures.of, rw (c.deref.ensures.value, c.deref-2.ensures.value) at c.in_ok-kind_report.ensures.sums);
  imported = (c.in_ok-kind_report-2.ensures.of, rw (c.deref-4.ensures.value, c.deref-5.ensures.value) at c.in_ok-kind_report-2.ensures.sums);
  buddy = (c.in_ok-kind_report-3.ensures.of, rw (c.deref-7.ensures.value, c.deref-8.ensures.value) at c.in_ok-kind_report-3.ensures.sums);
  free_list = (c.in_ok-kind_report-4.ensures.of, rw (c.deref-10.ensures.value, c.deref-11.ensures.value) at c.in_ok-kind_report-4.ensures.sums);
  fit = (c.in_ok-kind_report-5.ensures.of, rw (c.deref-13.ensures.value, c.deref-14.ensures.value) at c.in_ok-kind_report-5.ensures.sums);
}
