use Rattle.gpu_session.proofs.Openings.{none_is_whole, opening_is_kept}
use Rattle.gpu_session.proofs.session.Session.with_sharing.Goals as goal

pub invariant_of-session : goal.invariant_of-session
invariant_of-session g c =
    let sound = rw c.in-Ok-with_sharing.ensures.opened at c.in-Ok-with_sharing.ensures.sound in
    rw (c.in-Ok-with_sharing.ensures.opened, c.new.ensures.empty, c.requires.same)
    (opening_is_kept c.args.sharing c.args.config _ (g.D.MemoryDevice.objects c.args.device) c.in-Ok.offer c.in-Ok.ensures sound)

pub returns-in-Ok-with_sharing-clause-whole : goal.returns-in-Ok-with_sharing-clause-whole
returns-in-Ok-with_sharing-clause-whole g c =
    rw (c.in-Ok-with_sharing.ensures.opened, c.new.ensures.empty)
    (none_is_whole c.args.sharing c.args.config _ (g.D.MemoryDevice.objects c.args.device))
