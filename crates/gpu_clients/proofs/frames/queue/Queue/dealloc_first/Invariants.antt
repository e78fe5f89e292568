use Rattle.std.proofs.Common.{◌≡◌, drop}
use Rattle.gpu_clients.specs.Frames.{LeavesQueued}
use Rattle.gpu_clients.proofs.frames.queue.Queue.dealloc_first.Given as goal

abbrev pub invariant-loop : goal.invariant-loop
invariant-loop g l = record {
  blocks : l.self.blocks ≡ drop l.counter l.fn.self.blocks;
  leaves : LeavesQueued g.D.ObjectDevice.objects l.fn.self l.self l.self.blocks;
}
