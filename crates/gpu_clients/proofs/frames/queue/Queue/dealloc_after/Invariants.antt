use Rattle.std.proofs.Common.{◌≡◌, length, take}
use Rattle.gpu_clients.specs.Frames.{LeavesQueued}
use Rattle.gpu_clients.proofs.frames.queue.Queue.dealloc_after.Given as goal

abbrev pub invariant-loop-self : goal.invariant-loop-self
invariant-loop-self g l = record {
  blocks : take l.count l.self.blocks ≡ take l.count l.fn.self.blocks;
  leaves : LeavesQueued g.D.ObjectDevice.objects l.fn.self l.self l.self.blocks;
}

abbrev pub decreases-loop-self : goal.decreases-loop-self
decreases-loop-self g l = length l.self.blocks
