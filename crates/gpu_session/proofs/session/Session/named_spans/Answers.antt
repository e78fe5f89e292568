use Rattle.std.proofs.Common.{◌∙◌, map, ap}
use Rattle.gpu_session.proofs.Rows.{row_of, rows_are}
use Rattle.gpu_session.proofs.session.Session.named_spans.Goals as goal

pub returns-clause-exact : goal.returns-clause-exact
returns-clause-exact g c =
    let left = c.into_iter-name-iterator.ensures.into_iter_gives ∙ c.iter-name-items.ensures.rest in
    rw (← c.self.view_is)
    (rows_are c.loop-name.rows.items c.self.inside.blocks.entries c.loop-name.name-iterator c.iter-name-items.ensures.unique c.in-None.ensures.steps.0 (c.loop-name.invariant.2 ∙ ap (map row_of) left))
