use Rattle.std.proofs.Common.{◌∙◌, sym, ap, Some}
use Rattle.gpu_alloc.specs.Spans.{held_of}
use Rattle.gpu_alloc.proofs.Tables.OwnRows.{nowhere_unheld, under_row}
use Rattle.gpu_alloc.proofs.own.OwnObjects.held.Goals as goal

pub returns-in-Some : goal.returns-in-Some
returns-in-Some g c =
    let row = under_row c.self.inside.rows c.self.invariant c.in-Some.found c.args.object c.index.result.now c.in-Some.ensures c.index.ensures in
    rw (← c.self.view_is) (ap (λ r. Some (held_of r)) c.held.ensures ∙ sym row.is_held)

pub returns-in-None : goal.returns-in-None
returns-in-None g c = rw (← c.self.view_is) (sym (nowhere_unheld c.self.inside.rows c.self.invariant c.args.object c.in-None.ensures))
