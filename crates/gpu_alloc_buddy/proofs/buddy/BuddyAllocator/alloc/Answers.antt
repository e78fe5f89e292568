use Rattle.std.proofs.Common.{sym, subst, arith}
use Rattle.gpu_alloc_base.specs.Accounts.{account}
use Rattle.gpu_alloc_base.specs.Case.{Answers}
use Rattle.gpu_alloc_base.specs.Wanted.{Wanted, requested}
use Rattle.gpu_alloc_buddy.specs.Buddy.{buddy_case}
use Rattle.gpu_alloc_buddy.proofs.BuddyAnswers.{answers_sized, granted_so, order_is}
use Rattle.gpu_alloc_buddy.proofs.BuddySteps.{granted_counts}
use Rattle.gpu_alloc_buddy.proofs.buddy.BuddyAllocator.alloc.Goals as goal

pub returns-clause-allocates : goal.returns-clause-allocates
returns-clause-allocates g c =
    let b = c.self.inside.store.state in
    let w : Wanted = requested c.args.size c.args.align_mask c.args.flags in
    let told = c.alloc.ensures.allocates in
    rw (← c.self.view_is) (
      told.0,
      told.1,
      subst (λ n. Answers (buddy_case (account b c.args.heap.now c.args.allocations_remains.now) n w.flags) told.0 c.alloc.result (account c.alloc.new.store.state c.alloc.new.heap c.alloc.new.allocations_remains))
          (sym (order_is b w c.alloc.ensures.was (omega (arith, c.ranges.size.fits)) c.requires.alignment)) told.2,
    )

pub returns-clause-granted : goal.returns-clause-granted
returns-clause-granted g c =
    let told = returns-clause-allocates g c in
    let w : Wanted = requested c.args.size c.args.align_mask c.args.flags in
    granted_so c.args.self.now c.alloc.new.store.state w (rw (c.self.view_is) at c.alloc.ensures.was) c.alloc.ensures.sound (omega (arith, c.ranges.size.fits)) c.requires.alignment c.alloc.result (answers_sized _ _ _ _ told.0 c.alloc.result told.2) (rw (c.self.view_is) at c.alloc.ensures.added)

-- What it counts.

pub returns-clause-steps : goal.returns-clause-steps
returns-clause-steps g c =
    let b = c.self.inside.store.state in
    let told = c.alloc.ensures.allocates in
    rw (← c.self.view_is) (granted_counts b _ c.args.looks.now c.alloc.new.looks c.args.splits.now c.alloc.new.splits c.alloc.result (answers_sized _ _ _ _ told.0 c.alloc.result told.2) c.alloc.ensures.steps).0

pub returns-clause-begun : goal.returns-clause-begun
returns-clause-begun g c =
    let b = c.self.inside.store.state in
    let told = c.alloc.ensures.allocates in
    rw (← c.self.view_is) (granted_counts b _ c.args.looks.now c.alloc.new.looks c.args.splits.now c.alloc.new.splits c.alloc.result (answers_sized _ _ _ _ told.0 c.alloc.result told.2) c.alloc.ensures.steps).1
