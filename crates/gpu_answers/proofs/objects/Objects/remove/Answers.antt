use Rattle.std.proofs.Common.{◌≡◌, Some, ap, sym, ◌∙◌}
use Rattle.std.specs.FinMap as finite
use Rattle.gpu_alloc_base.proofs.SlabViews.{IsRemoved, once_removed}
use Rattle.gpu_answers.specs.Objects.{ObjectsState, name_in}
use Rattle.gpu_answers.proofs.ObjectRows.{by_name, nowhere_absent, under_object, fewer}
use Rattle.gpu_answers.proofs.objects.Objects.remove.Goals as goal

pub unreachable-requires : goal.unreachable-requires
unreachable-requires c =
    let absent = sym (ap (λ (s : ObjectsState). finite.get s.objects c.args.name) c.self.view_is) ∙ nowhere_absent c.self.inside.rows c.args.name c.in-None.ensures in
    let held = rw absent at c.requires.held in
    absurd (cc)

removed : (c : goal.After-result-1) → IsRemoved c.self.inside.rows c.remove.new.self c.in-Some.found c.remove.result
removed c = record { was = c.remove.ensures.value; updates = c.remove.ensures.updates }

-- the row is the name's, and says what its object is
row_is : (c : goal.After-result-1) → (name_in c.remove.result ≡ c.args.name) × (finite.get (by_name c.self.inside.rows) c.args.name ≡ Some c.remove.result.object)
row_is c = under_object c.self.inside.rows c.args.name c.in-Some.found c.remove.result c.self.invariant c.in-Some.ensures c.remove.ensures.value

pub invariant_of-self : goal.invariant_of-self
invariant_of-self c = once_removed name_in _ _ _ _ c.self.invariant (removed c)

pub returns-clause-was : goal.returns-clause-was
returns-clause-was c = rw (← c.self.view_is) (row_is c).1

pub returns-clause-objects : goal.returns-clause-objects
returns-clause-objects c = rw (← c.self.view_is) (fewer _ _ _ _ c.self.invariant (removed c) ∙ ap (finite.remove (by_name c.self.inside.rows)) (row_is c).0)
