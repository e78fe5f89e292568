use Rattle.std.proofs.Common.{◌≡◌, length}
use Rattle.std.specs.Ordering.{nat_cmp}
use Rattle.std.specs.FinMap as map
use Rattle.gpu_session.specs.Sound.{IsSoundSession}
use Rattle.gpu_session.proofs.Finished.{HasReturned}
use Rattle.gpu_session.proofs.session.Session.finish.Given as goal

abbrev pub invariant-loop-block : goal.invariant-loop-block
invariant-loop-block g l = record {
  sound : IsSoundSession (g.D.MemoryDevice.properties l.device) (g.D.MemoryDevice.objects l.device) (record { allocator = l.allocator; blocks = map.from_entries {R = nat_cmp} l.blocks.entries });
  returned : HasReturned g.D.MemoryDevice.step g.D.MemoryDevice.objects l.fn.self.books.allocator l.fn.self.device l.allocator l.device;
  properties : g.D.MemoryDevice.properties l.device ≡ g.D.MemoryDevice.properties l.fn.self.device;
}

abbrev pub decreases-loop-block : goal.decreases-loop-block
decreases-loop-block g l = length l.blocks.entries
