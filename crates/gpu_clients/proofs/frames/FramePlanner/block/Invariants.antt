use Rattle.std.proofs.Common.{◌≡◌, sum, take}
use Rattle.gpu_clients.proofs.frames.FramePlanner.block.Given as goal

abbrev pub invariant-loop-earlier : goal.invariant-loop-earlier
invariant-loop-earlier g l = l.first ≡ sum (take l.earlier l.self-inside.counts.items)
