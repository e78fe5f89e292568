use Rattle.std.proofs.Common.{ap, ◌∙◌}
use Rattle.std.specs.FinMap as finite
use Rattle.gpu_alloc_base.specs.SlabViews.{HasOneKeyEach}
use Rattle.gpu_alloc_base.proofs.SlabViews.{IsInserted}
use Rattle.gpu_answers.specs.Objects.{ObjectsState, name_in}
use Rattle.gpu_answers.specs.declared.objects.ObjectRow.{ObjectRow}
use Rattle.gpu_answers.proofs.ObjectRows.{once_more, more}
use Rattle.gpu_answers.proofs.objects.Objects.insert_reserved.Goals as goal

abbrev row : goal.After-insert_reserved → ObjectRow
row c = record { name = c.args.name; object = c.args.object }

inserted : (c : goal.After-insert_reserved) → IsInserted c.self.inside.rows c.insert_reserved.new.self c.insert_reserved.result (row c)
inserted c = record { was_vacant = c.insert_reserved.ensures.was_vacant; updates = c.insert_reserved.ensures.updates }

once : (c : goal.After-insert_reserved) → HasOneKeyEach name_in c.insert_reserved.new.self
once c =
    let free = ap (λ (s : ObjectsState). finite.get s.objects c.args.name) c.self.view_is ∙ c.requires.free in
    once_more _ _ _ _ c.self.invariant free (inserted c)

pub invariant_of-self : goal.invariant_of-self
invariant_of-self c = once c

pub returns : goal.returns
returns c = rw (← c.self.view_is) (record { objects = more _ _ _ _ (once c) (inserted c) })
