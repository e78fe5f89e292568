use Rattle.std.proofs.Common.{◌≡◌, None, ap, ◌∙◌}
use Rattle.std.specs.FinMap as finite
use Rattle.gpu_alloc_base.proofs.SlabViews.{IsInserted}
use Rattle.gpu_alloc.specs.Own.{OwnTable}
use Rattle.gpu_alloc.proofs.Tables.OwnRows.{held_in, held_more, live_more, once_more}
use Rattle.gpu_alloc.proofs.own.OwnObjects.insert.Given.{Over}
use Rattle.gpu_alloc.proofs.own.OwnObjects.insert.Goals as goal

inserted : (g : Over) (c : goal.After-insert_reserved g) → IsInserted c.self.inside.rows c.insert_reserved.new.self c.insert_reserved.result c.args.row
inserted g c = record { was_vacant = c.insert_reserved.ensures.was_vacant; updates = c.insert_reserved.ensures.updates }

none : (g : Over) (c : goal.After-insert_reserved g) → finite.get (held_in c.self.inside.rows) c.args.row.object ≡ None
none g c = ap (λ (t : OwnTable). finite.get t.held c.args.row.object) c.self.view_is ∙ c.requires.free

pub invariant_of-self : goal.invariant_of-self
invariant_of-self g c = once_more _ _ _ _ c.self.invariant (none g c) (inserted g c)

pub returns-clause-held : goal.returns-clause-held
returns-clause-held g c = rw (← c.self.view_is) (held_more _ _ _ _ c.self.invariant (none g c) (inserted g c))

pub returns-clause-live : goal.returns-clause-live
returns-clause-live g c = rw (← c.self.view_is) (live_more _ _ _ _ c.self.invariant (inserted g c))
