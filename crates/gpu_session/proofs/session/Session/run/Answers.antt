use Rattle.std.proofs.Common.{◌+◌, ◌∙◌, ap, arith}
use Rattle.std.proofs.lemmas.List.{take_all}
use Rattle.gpu_session.specs.Sound.{SoundStep}
use Rattle.gpu_session.proofs.Holding.{run_holds_along, run_tells}
use Rattle.gpu_session.proofs.Runs.{run_next_is}
use Rattle.gpu_session.proofs.session.Session.run.Goals as goal

pub loop-command-preserved : goal.loop-command-preserved
loop-command-preserved g c =
    let before = c.loop-command.invariant in
    let pushed = rw c.unwrap.ensures at c.push.ensures.items in
    let longer = rw c.unwrap.ensures at c.push.ensures.len in
    let served = c.serve-reply.ensures in
    record {
      so_far = rw pushed (run_next_is (SoundStep g.D.MemoryDevice.step g.D.MemoryDevice.properties g.D.MemoryDevice.objects) _ c.loop-command.self _ c.args.commands.now c.loop-command.command-index c.command-item.result c.loop-command.replies.items c.serve-reply.result c.loop-command-test.true c.command-item.is before.so_far (record { before = before.sound; taken = served.step; keeps = served.keeps; after = c.keeps_sound-in-loop-command.ensures }));
      sound = c.keeps_sound-in-loop-command.ensures;
      given = record { properties = served.keeps.given.properties ∙ before.given.properties; config = served.keeps.given.config ∙ before.given.config; sharing = served.keeps.given.sharing ∙ before.given.sharing };
      told = longer ∙ ap (λ n. n + 1) before.told;
      room = omega (arith, before.room, c.push.ensures.capacity);
    }

pub returns-clause-isolated : goal.returns-clause-isolated
returns-clause-isolated g c = run_holds_along g.D.MemoryDevice.step g.D.MemoryDevice.properties g.D.MemoryDevice.objects _ c.args.commands.now _

pub returns-clause-told : goal.returns-clause-told
returns-clause-told g c =
    let so_far = rw (take_all c.loop-command.command-index c.args.commands.now c.loop-command-test.false) at c.loop-command.invariant.so_far in
    run_tells g.D.MemoryDevice.step g.D.MemoryDevice.properties g.D.MemoryDevice.objects _ _ c.args.commands.now _ so_far
