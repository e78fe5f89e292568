use Rattle.std.proofs.Common.{◌∙◌, ap, subst}
use Rattle.std.specs.FinMap as map
use Rattle.gpu_alloc_base.proofs.Names.{get_removed}
use Rattle.gpu_answers.specs.Held.{ChangesHeldObject, held_mapped_as}
use Rattle.gpu_answers.proofs.Keeping.{changed_by, changed_in, kept-changed}
use Rattle.gpu_answers.proofs.held.HeldObjects.set_mapped.Goals as goal

pub insert_reserved-requires-clause-free : goal.insert_reserved-requires-clause-free
insert_reserved-requires-clause-free c =
    ap (λ m. map.get m c.object-name.result) c.remove-object.ensures.objects ∙ get_removed _ c.object-name.result

changed : (c : goal.After-insert_reserved) → ChangesHeldObject (held_mapped_as c.args.range) c.self.inside.objects.objects c.args.memory.now c.insert_reserved.new.self.objects
changed c = subst (λ name. ChangesHeldObject (held_mapped_as c.args.range) c.self.inside.objects.objects name c.insert_reserved.new.self.objects) c.object-name.ensures
    (changed_by (held_mapped_as c.args.range) _ _ _ c.object-name.result c.remove-object.result c.remove-object.ensures.was c.remove-object.ensures.objects c.insert_reserved.ensures.objects)

pub invariant_of-self : goal.invariant_of-self
invariant_of-self c = kept-changed _ _ _ _ _ c.self.invariant (held_mapped_as c.args.range) c.args.memory.now _ (changed c)

pub returns-clause-objects : goal.returns-clause-objects
returns-clause-objects c = changed_in (held_mapped_as c.args.range) _ _ c.args.memory.now _ c.self.view_is (changed c)
