use Rattle.std.proofs.Common.{◌≡◌, map, take}
use Rattle.gpu_report.specs.Session.{block_of}
use Rattle.gpu_report.proofs.build.named_blocks.Given as goal

abbrev pub invariant-loop-row : goal.invariant-loop-row
invariant-loop-row l = l.blocks.items ≡ map block_of (take l.row-index l.rows)
