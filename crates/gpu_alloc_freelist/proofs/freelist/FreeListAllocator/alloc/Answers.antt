use Rattle.gpu_alloc_base.specs.Accounts.{account}
use Rattle.gpu_alloc_base.specs.Wanted.{requested}
use Rattle.gpu_alloc_freelist.proofs.FreeListAnswers.{answers_granted, answers_keep, answers_so}
use Rattle.gpu_alloc_freelist.proofs.freelist.FreeListAllocator.alloc.Goals as goal

pub returns-clause-allocates : goal.returns-clause-allocates
returns-clause-allocates g c =
    let told = c.alloc.ensures.allocates in
    rw (← c.self.view_is) (
      told.0,
      told.1,
      answers_so (account c.self.inside.store.state c.args.heap.now c.args.allocations_remains.now) (requested c.args.size c.args.align_mask c.args.flags) c.alloc.ensures.was told.0 c.alloc.result
          (account c.alloc.new.self.state c.alloc.new.heap c.alloc.new.allocations_remains) told.2,
    )

pub returns-clause-granted : goal.returns-clause-granted
returns-clause-granted g c =
    let told = returns-clause-allocates g c in
    answers_granted (account c.args.self.now c.args.heap.now c.args.allocations_remains.now) (account c.alloc.new.self.state c.alloc.new.heap c.alloc.new.allocations_remains) (requested c.args.size c.args.align_mask c.args.flags) told.0
    (rw (c.self.view_is) at c.alloc.ensures.was) c.requires.nonempty c.requires.alignment c.requires.fits c.alloc.ensures.sound c.alloc.result told.2 (rw (c.self.view_is) at c.alloc.ensures.added)

pub returns-clause-settings : goal.returns-clause-settings
returns-clause-settings g c =
    let told = returns-clause-allocates g c in
    answers_keep (account c.args.self.now c.args.heap.now c.args.allocations_remains.now) (account c.alloc.new.self.state c.alloc.new.heap c.alloc.new.allocations_remains) (requested c.args.size c.args.align_mask c.args.flags) told.0 c.alloc.result told.2
