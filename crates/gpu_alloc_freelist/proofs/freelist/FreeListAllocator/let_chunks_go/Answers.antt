use Rattle.std.proofs.Common.{◌∙◌, [], refl}
use Rattle.gpu_alloc_base.specs.Accounts.{account}
use Rattle.gpu_alloc_freelist.proofs.ForCallers.{goes_on, none_left}
use Rattle.gpu_alloc_freelist.proofs.freelist.FreeListAllocator.let_chunks_go.Goals as goal

-- no chunk goes, as a count shows
pub returns-then-keeps_all-clause-gives : goal.returns-then-keeps_all-clause-gives
returns-then-keeps_all-clause-gives g c =
    rw (← c.self.view_is) ([], ([], refl, none_left c.args.keep_last (account c.self.inside.store.state c.args.heap.now c.args.allocations_remains.now) (g.D.ObjectDevice.objects c.args.device.now) (c.keeps_all.ensures c.if-keeps_all.true)))

pub loop-self-init : goal.loop-self-init
loop-self-init g c = rw (← c.self.view_is) (record {
  way = λ end new gives. gives;
  agrees = rw (← c.self.view_is) at c.requires.agrees;
  properties = refl;
  sound = c.keeps_sound.ensures;
  counted = rw (← c.self.view_is) at c.requires.counted;
  total = refl;
})

pub loop-self-preserved : goal.loop-self-preserved
loop-self-preserved g c =
    let was = c.loop-self.invariant in
    record {
      way = λ end new gives. was.way end new (goes_on g.D.ObjectDevice.step g.D.ObjectDevice.objects _ _ end c.args.keep_last _ _ new was.sound c.release_next.ensures.releases gives);
      agrees = c.release_next.ensures.agrees;
      properties = c.release_next.ensures.properties ∙ was.properties;
      sound = c.release_next.ensures.sound;
      counted = c.release_next.ensures.counted;
      total = c.release_next.ensures.total ∙ was.total;
    }

pub returns-clause-gives : goal.returns-clause-gives
returns-clause-gives g c =
    let was = c.loop-self.invariant in
    was.way _ _ (goes_on g.D.ObjectDevice.step g.D.ObjectDevice.objects _ _ _ c.args.keep_last _ _ _ was.sound c.release_next.ensures.releases
    ([], ([], refl, none_left c.args.keep_last _ _ (c.release_next.ensures.left c.loop-self-test.false))))
