use Rattle.gpu_alloc.specs.Served.{ServesFirst}
use Rattle.gpu_clients.specs.Frames.{LeavesQueued}
use Rattle.gpu_clients.proofs.frames.queue.Queue.take_all.Given as goal

abbrev pub invariant-loop-request : goal.invariant-loop-request
invariant-loop-request g l = record {
  served : ServesFirst l.requests l.request-index l.fn.self.blocks l.self.blocks;
  leaves : LeavesQueued g.D.ObjectDevice.objects l.fn.self l.self l.fn.self.blocks;
}
