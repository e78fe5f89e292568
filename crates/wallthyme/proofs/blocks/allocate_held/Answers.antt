use Rattle.std.proofs.Common.{sym, ◌∙◌}
use Rattle.wallthyme.proofs.Unasked.{held_unasked}
use Rattle.wallthyme.proofs.blocks.allocate_held.Goals as goal

pub returns-in-Err-clause-unasked : goal.returns-in-Err-clause-unasked
returns-in-Err-clause-unasked c = λ asks. held_unasked c.args.desk.now c.args.request c.args.wish c.in-Err.denial c.in-Err.ensures.denied (sym c.denied.ensures.status ∙ asks)
