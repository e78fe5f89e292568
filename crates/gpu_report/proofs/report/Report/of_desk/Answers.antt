use Rattle.gpu_report.proofs.Keys.{none_lacks}
use Rattle.gpu_report.proofs.report.Report.of_desk.Goals as goal

pub unreachable-requires : goal.unreachable-requires
unreachable-requires c =
    let lacks = rw c.in-None.is at c.in_ok-report.ensures.missing in
    none_lacks c.args.desk.now c.in_ok-blocks.blocks.items c.in_ok-blocks.ensures c.keeps_sound.ensures (rw (c.allocator.ensures, c.deref.ensures.value) at lacks)

pub returns : goal.returns
returns c =
    let report = rw c.in-Some.is at c.in_ok-report.ensures.report in
    record {
      report = record {
        blocks = c.in_ok-blocks.blocks.items;
        keyed = c.in_ok-blocks.ensures;
        report = rw (c.allocator.ensures, c.deref.ensures.value) at report;
      };
    }
