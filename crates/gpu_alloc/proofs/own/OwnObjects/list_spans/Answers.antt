use Rattle.std.proofs.Common.{◌++◌, ◌∙◌, ap, map}
use Rattle.slab.specs.Slab.{entries}
use Rattle.gpu_alloc.specs.Own.{live_span_of}
use Rattle.gpu_alloc.proofs.Tables.Listed.{pushed_all}
use Rattle.gpu_alloc.proofs.Tables.OwnRows.{spans_are, spans_listed_once, spans_of}
use Rattle.gpu_alloc.proofs.own.OwnObjects.list_spans.Goals as goal

pub returns : goal.returns
returns g c =
    let s = c.self.inside.rows in
    let left = c.into_iter-row-iterator.ensures.into_iter_gives ∙ c.iter-row-items.ensures.rest in
    let is = pushed_all (λ e. live_span_of e.1) c.args.rows.now.items c.loop-row.rows.items (entries s) c.loop-row.row-iterator c.in-None.ensures.steps.0
    (c.loop-row.invariant.2 ∙ ap (λ es. c.args.rows.now.items ++ map (λ e. live_span_of e.1) es) left) in
    rw (← c.self.view_is) (spans_of s c.self.invariant, is, (spans_are s c.self.invariant, spans_listed_once s c.self.invariant))
