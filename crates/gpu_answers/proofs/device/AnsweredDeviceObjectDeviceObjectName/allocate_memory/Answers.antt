use Rattle.std.proofs.Common.{◌≡◌, ◌+◌, ◌∙◌, Some, None, ap, refl, subst}
use Rattle.std.specs.FinMap as map
use Rattle.gpu_answers.specs.Asking.{AsksInRun}
use Rattle.gpu_answers.specs.Held.{HeldState, new_held_object}
use Rattle.gpu_answers.specs.declared.question.Question.TheVariants.{Allocate}
use Rattle.gpu_answers.proofs.Rows.{made_row}
use Rattle.gpu_answers.proofs.device.AnsweredDeviceObjectDeviceObjectName.allocate_memory.Goals as goal

pub returns-in-Some-Granted : goal.returns-in-Some-Granted
returns-in-Some-Granted c =
    let kept = c.make_room.ensures.kept in
    let held = c.hold-memory.ensures in
    let told = subst (λ told. AsksInRun c.self.inside.run (Allocate c.args.size c.args.memory_type c.args.flags.bits) told c.ask.new.self)
    (c.in-Some-Granted.is ∙ ap (λ a. Some a) c.in-Some-Granted.field-0-is)
    (subst (λ bits. AsksInRun c.self.inside.run (Allocate c.args.size c.args.memory_type bits) c.ask.result c.ask.new.self) c.bits.ensures c.ask.ensures) in
    rw (← c.self.view_is) (record {
      row = made_row c.self.inside.properties c.self.inside.held.objects c.args.size c.args.memory_type c.args.flags.bits c.hold-memory.result c.hold-memory.new.self.objects
          (subst (λ (s : HeldState). map.get s.objects c.hold-memory.result ≡ None) kept held.free)
          (held.objects ∙ ap (λ (s : HeldState). map.insert s.objects c.hold-memory.result (new_held_object c.args.size c.args.memory_type)) kept);
      offers = refl;
      answers = (c.ask.new.self, told, c.note_made.ensures ∙ ap (λ name. record c.ask.new.self { made = Some name }) c.object.ensures);
      names = (held.name ∙ ap (λ (s : HeldState). s.last_name + 1) kept, held.last_name, held.gone ∙ ap (λ (s : HeldState). s.gone) kept);
    })
