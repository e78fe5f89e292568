use Rattle.std.proofs.Common.{◌<◌, ◌+◌, ◌∙◌, ap, sym, subst}
use Rattle.std.specs.FinMap as map
use Rattle.gpu_answers.specs.Held.{HeldState, new_held_object}
use Rattle.gpu_answers.proofs.Keeping.{kept-held, next_free, room_is}
use Rattle.gpu_answers.proofs.held.HeldObjects.hold.Goals as goal

pub insert_reserved-place-requires-clause-free : goal.insert_reserved-place-requires-clause-free
insert_reserved-place-requires-clause-free c = next_free _ _ _ _ _ c.self.invariant

pub invariant_of-self : goal.invariant_of-self
invariant_of-self c =
    rw c.insert_reserved-place.ensures.objects
    (kept-held _ _ _ _ _ c.self.invariant _ (room_is _ _ _ _ _ (subst (λ (s : HeldState). 0 < s.room) (sym c.self.view_is) c.requires)))

pub returns-clause-objects : goal.returns-clause-objects
returns-clause-objects c =
    c.insert_reserved-place.ensures.objects
    ∙ ap (λ (s : HeldState). map.insert s.objects (c.self.inside.last_name + 1) (new_held_object c.args.size c.args.memory_type)) c.self.view_is
    ∙ ap (λ name. map.insert c.args.self.now.objects name (new_held_object c.args.size c.args.memory_type)) (sym c.new.ensures)
