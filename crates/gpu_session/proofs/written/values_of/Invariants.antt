use Rattle.std.proofs.Common.{◌≡◌}
use Rattle.gpu_session.specs.Written.{seen_along, unseen}
use Rattle.gpu_session.proofs.written.values_of.Given as goal

-- what the commands and replies that are left make of what is known is what all of them make of nothing
abbrev pub invariant-loop-command : goal.invariant-loop-command
invariant-loop-command g l =
    seen_along l.name l.byte l.command-iterator.a.rest.now l.command-iterator.b.rest.now l.known ≡ seen_along l.name l.byte l.commands l.replies unseen
