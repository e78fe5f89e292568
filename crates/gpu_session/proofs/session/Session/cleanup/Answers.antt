use Rattle.gpu_session.proofs.Returns.{cleanup_is_kept, nothing_held, nothing_live}
use Rattle.gpu_alloc_base.proofs.Names.{here}
use Rattle.gpu_session.specs.Sound.{IsBlock}
use Rattle.gpu_session.proofs.Others.{untouched_bytes}
use Rattle.gpu_session.proofs.session.Session.cleanup.Goals as goal

pub invariant_of-self : goal.invariant_of-self
invariant_of-self g c =
    let done = c.cleanup.ensures in
    cleanup_is_kept c.self.invariant (record { leaves = done.leaves; rest = done.rest; keeps = done.keeps; sound = done.sound; agrees = done.agrees })

pub returns-clause-keeps : goal.returns-clause-keeps
returns-clause-keeps g c =
    let done = c.cleanup.ensures in
    rw (← c.self.view_is)
    (record {
      given = record { properties = done.leaves.properties; config = done.leaves.config; sharing = done.leaves.sharing };
      granted = tt;
      refused = tt;
      balance = (done.total, λ empty. let ended = done.ends (nothing_live c.self.invariant.sound empty) in nothing_held _ _ done.total ended.0 ended.1);
      others = λ name b another there.
          let before = g.D.MemoryDevice.objects c.self.inside.device in
          let owned = (here _ (IsBlock _ c.self.inside.allocator before) (c.self.invariant.sound.blocks name) b there).owned in
          (there, untouched_bytes before (g.D.MemoryDevice.objects c.cleanup.new.device) b (done.in_hand.bytes b owned));
      bytes = tt;
    })
