use Rattle.std.proofs.Common.{sym, subst, arith}
use Rattle.gpu_alloc_base.specs.Accounts.{account}
use Rattle.gpu_alloc_base.specs.Case.{RefusesFirst}
use Rattle.gpu_alloc_base.specs.Wanted.{wanted}
use Rattle.gpu_alloc_buddy.specs.Buddy.{buddy_case}
use Rattle.gpu_alloc_buddy.specs.BuddyRule.{order_for}
use Rattle.gpu_alloc_buddy.specs.BuddySteps.{CountsRefusing}
use Rattle.gpu_alloc_buddy.proofs.BuddyAnswers.{order_is}
use Rattle.gpu_alloc_buddy.proofs.BuddySteps.{refusing_so}
use Rattle.gpu_alloc_buddy.proofs.buddy.BuddyAllocator.refuses.Goals as goal

pub returns-clause-refuses : goal.returns-clause-refuses
returns-clause-refuses g c = λ flags.
    let b = c.self.inside.store.state in
    let is = order_is b (wanted c.args.size c.args.align_mask flags) c.keeps_sound.ensures (omega (arith, c.ranges.size.fits)) c.requires.alignment in
    rw (← c.self.view_is) (subst (λ n. RefusesFirst (buddy_case (account b c.args.heap.now c.args.allocations_remains) n flags) c.refuses.result) (sym is) (c.refuses.ensures.refuses flags))

pub returns-clause-steps : goal.returns-clause-steps
returns-clause-steps g c = λ flags.
    let b = c.self.inside.store.state in
    let a = account b c.args.heap.now c.args.allocations_remains in
    let is = order_is b (wanted c.args.size c.args.align_mask flags) c.keeps_sound.ensures (omega (arith, c.ranges.size.fits)) c.requires.alignment in
    rw (← c.self.view_is) (subst (λ n. CountsRefusing a n c.args.looks.now c.refuses.new.looks) (sym is) (refusing_so a (order_for b c.args.size c.args.align_mask) c.args.looks.now c.refuses.new.looks c.refuses.ensures.looked))
