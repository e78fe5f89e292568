use Rattle.std.proofs.Common.{sym, ◌∙◌}
use Rattle.gpu_clients.proofs.closing.close.Goals as goal

pub close-requires : goal.close-requires
close-requires g c = c.cleanup.ensures.rest.held c.requires.none

pub returns-clause-beside : goal.returns-clause-beside
returns-clause-beside g c = λ name. sym (c.cleanup.ensures.rest.outside c.requires.none _ name) ∙ c.cleanup.ensures.in_hand.outside name
