use Rattle.std.proofs.Common.{◌-◌, ◌^◌}
use Rattle.gpu_desk.specs.Walk.{behind}
use Rattle.gpu_report.proofs.Keys.{AreLive, Lists}
use Rattle.gpu_report.proofs.desk.keyed_blocks.Given as goal

abbrev pub invariant-loop-grant : goal.invariant-loop-grant
invariant-loop-grant l = record {
  live : AreLive l.desk l.blocks.items;
  lists : Lists l.desk (behind l.after) l.blocks.items;
}

abbrev pub decreases-loop-grant : goal.decreases-loop-grant
decreases-loop-grant l = 2 ^ 32 - behind l.after
