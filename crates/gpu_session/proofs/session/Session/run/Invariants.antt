use Rattle.std.proofs.Common.{◌≡◌, ◌≤◌, length, take, vec_len, vec_capacity}
use Rattle.gpu_session.specs.Run.{Run}
use Rattle.gpu_session.specs.Sound.{IsSoundSession, KeepsGiven, SoundStep}
use Rattle.gpu_session.proofs.session.Session.run.Given as goal

abbrev pub invariant-loop-command : goal.invariant-loop-command
invariant-loop-command g l = record {
  so_far : Run (SoundStep g.D.MemoryDevice.step g.D.MemoryDevice.properties g.D.MemoryDevice.objects) l.fn.self (take l.command-index l.commands) l.replies.items l.self;
  sound : IsSoundSession (g.D.MemoryDevice.properties l.self.device) (g.D.MemoryDevice.objects l.self.device) l.self.books;
  given : KeepsGiven l.fn.self.books.allocator l.self.books.allocator;
  told : vec_len l.replies ≡ l.command-index;
  room : length l.commands ≤ vec_capacity l.replies;
}
