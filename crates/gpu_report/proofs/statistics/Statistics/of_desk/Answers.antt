use Rattle.gpu_report.proofs.Keys.{none_lacks}
use Rattle.gpu_report.proofs.statistics.Statistics.of_desk.Goals as goal

pub unreachable-requires : goal.unreachable-requires
unreachable-requires c =
    let lacks = rw c.in-None.is at c.in_ok-statistics.ensures.missing in
    none_lacks c.args.desk.now c.in_ok-blocks.blocks.items c.in_ok-blocks.ensures c.keeps_sound.ensures (rw (c.allocator-2.ensures, c.deref.ensures.value) at lacks)

pub returns-clause-told : goal.returns-clause-told
returns-clause-told c =
    let told = rw c.in-Some.is at c.in_ok-statistics.ensures.told in
    record {
      blocks = c.in_ok-blocks.blocks.items;
      keyed = c.in_ok-blocks.ensures;
      sums = rw (c.allocator-2.ensures, c.deref.ensures.value) at told;
    }
