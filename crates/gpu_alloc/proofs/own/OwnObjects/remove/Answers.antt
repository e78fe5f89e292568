use Rattle.std.proofs.Common.{◌∙◌, ap}
use Rattle.std.specs.FinMap as finite
use Rattle.gpu_alloc_base.proofs.Lists.{none_is_some}
use Rattle.gpu_alloc_base.proofs.SlabViews.{IsRemoved}
use Rattle.gpu_alloc.proofs.Tables.OwnRows.{held_in, held_less, live_less, nowhere_unheld, once_less, under_row}
use Rattle.gpu_alloc.proofs.own.OwnObjects.remove.Goals as goal

pub sought-found-requires : goal.sought-found-requires
sought-found-requires g c nowhere =
    none_is_some _ (nowhere_unheld c.self.inside.rows c.self.invariant c.args.object nowhere) (rw (← c.self.view_is) at c.requires.held)

-- The row stands under the key that was given.

pub invariant_of-self : goal.invariant_of-self
invariant_of-self g c =
    let removed : IsRemoved c.self.inside.rows c.remove.new.self c.args.key c.remove.result = record { was = c.remove.ensures.value; updates = c.remove.ensures.updates } in
    once_less _ _ _ _ c.self.invariant removed

pub returns-then-is_under-clause-row : goal.returns-then-is_under-clause-row
returns-then-is_under-clause-row g c = rw (← c.self.view_is) (under_row c.self.inside.rows c.self.invariant c.args.key c.args.object c.remove.result (c.is_under.ensures.0 c.if-is_under.true) c.remove.ensures.value)

pub returns-then-is_under-clause-held : goal.returns-then-is_under-clause-held
returns-then-is_under-clause-held g c =
    let removed : IsRemoved c.self.inside.rows c.remove.new.self c.args.key c.remove.result = record { was = c.remove.ensures.value; updates = c.remove.ensures.updates } in
    let row = under_row c.self.inside.rows c.self.invariant c.args.key c.args.object c.remove.result (c.is_under.ensures.0 c.if-is_under.true) c.remove.ensures.value in
    rw (← c.self.view_is) (held_less _ _ _ _ c.self.invariant removed ∙ ap (finite.remove (held_in c.self.inside.rows)) row.named)

pub returns-then-is_under-clause-live : goal.returns-then-is_under-clause-live
returns-then-is_under-clause-live g c =
    let removed : IsRemoved c.self.inside.rows c.remove.new.self c.args.key c.remove.result = record { was = c.remove.ensures.value; updates = c.remove.ensures.updates } in
    rw (← c.self.view_is) (live_less _ _ _ _ c.self.invariant removed)

-- It was sought.

pub invariant_of-self-else-is_under : goal.invariant_of-self-else-is_under
invariant_of-self-else-is_under g c =
    let removed : IsRemoved c.self.inside.rows c.remove-else-is_under.new.self c.sought-found.result c.remove-else-is_under.result = record { was = c.remove-else-is_under.ensures.value; updates = c.remove-else-is_under.ensures.updates } in
    once_less _ _ _ _ c.self.invariant removed

pub returns-else-is_under-clause-row : goal.returns-else-is_under-clause-row
returns-else-is_under-clause-row g c = rw (← c.self.view_is) (under_row c.self.inside.rows c.self.invariant c.sought-found.result c.args.object c.remove-else-is_under.result c.sought-found.ensures c.remove-else-is_under.ensures.value)

pub returns-else-is_under-clause-held : goal.returns-else-is_under-clause-held
returns-else-is_under-clause-held g c =
    let removed : IsRemoved c.self.inside.rows c.remove-else-is_under.new.self c.sought-found.result c.remove-else-is_under.result = record { was = c.remove-else-is_under.ensures.value; updates = c.remove-else-is_under.ensures.updates } in
    let row = under_row c.self.inside.rows c.self.invariant c.sought-found.result c.args.object c.remove-else-is_under.result c.sought-found.ensures c.remove-else-is_under.ensures.value in
    rw (← c.self.view_is) (held_less _ _ _ _ c.self.invariant removed ∙ ap (finite.remove (held_in c.self.inside.rows)) row.named)

pub returns-else-is_under-clause-live : goal.returns-else-is_under-clause-live
returns-else-is_under-clause-live g c =
    let removed : IsRemoved c.self.inside.rows c.remove-else-is_under.new.self c.sought-found.result c.remove-else-is_under.result = record { was = c.remove-else-is_under.ensures.value; updates = c.remove-else-is_under.ensures.updates } in
    rw (← c.self.view_is) (live_less _ _ _ _ c.self.invariant removed)
