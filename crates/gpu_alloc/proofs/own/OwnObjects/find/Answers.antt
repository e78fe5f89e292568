use Rattle.gpu_alloc.proofs.Tables.OwnRows.{nowhere_unheld, under_row}
use Rattle.gpu_alloc.proofs.own.OwnObjects.find.Goals as goal

pub returns-in-Some : goal.returns-in-Some
returns-in-Some g c =
    rw (← c.self.view_is) (under_row c.self.inside.rows c.self.invariant c.in-Some.found c.args.object c.index.result.now c.in-Some.ensures c.index.ensures)

pub returns-in-None : goal.returns-in-None
returns-in-None g c = rw (← c.self.view_is) (nowhere_unheld c.self.inside.rows c.self.invariant c.args.object c.in-None.ensures)
