use Rattle.std.proofs.Common.{◌<◌, subst}
use Rattle.gpu_alloc_base.specs.Accounts.{account}
use Rattle.gpu_alloc_base.specs.Sizes.{up}
use Rattle.gpu_alloc_base.specs.Wanted.{requested}
use Rattle.gpu_alloc_runs.specs.Space.{HasPlace, LooksAtFew}
use Rattle.gpu_alloc_shared.proofs.Sized.{alignment_is}
use Rattle.gpu_alloc_fit.proofs.FitAnswers.{answers_granted, answers_so}
use Rattle.gpu_alloc_fit.proofs.FitLooks.{one_looked_at}
use Rattle.gpu_alloc_fit.proofs.fit.FitAllocator.alloc.Goals as goal

pub returns-clause-allocates : goal.returns-clause-allocates
returns-clause-allocates g c =
    let told = c.alloc.ensures.allocates in
    rw (← c.self.view_is) (
      told.0,
      told.1,
      answers_so (account c.self.inside.store.state c.args.heap.now c.args.allocations_remains.now) (requested c.args.size c.args.align_mask c.args.flags) c.alloc.ensures.was told.0 c.alloc.result
          (account c.alloc.new.self.state c.alloc.new.heap c.alloc.new.allocations_remains) told.2,
    )

pub returns-clause-granted : goal.returns-clause-granted
returns-clause-granted g c =
    let told = returns-clause-allocates g c in
    answers_granted (account c.args.self.now c.args.heap.now c.args.allocations_remains.now) (account c.alloc.new.self.state c.alloc.new.heap c.alloc.new.allocations_remains) (requested c.args.size c.args.align_mask c.args.flags) told.0
    c.requires.nonempty c.requires.alignment (rw (c.self.view_is) at c.alloc.ensures.was) c.alloc.ensures.sound c.alloc.result told.2 (rw (c.self.view_is) at c.alloc.ensures.added)

pub returns-clause-looks : goal.returns-clause-looks
returns-clause-looks g c =
    let f = c.self.inside.store.state in
    rw (← c.self.view_is) (subst (λ n. LooksAtFew f.space (up c.args.size f.atom) n c.args.looks.now c.alloc.new.looks) (alignment_is f.atom c.args.size c.args.align_mask c.alloc.ensures.was.atom) c.alloc.ensures.looks.0)

pub returns-clause-one : goal.returns-clause-one
returns-clause-one g c =
    one_looked_at c.args.self.now (up c.args.size c.args.self.now.atom) c.args.align_mask c.args.looks.now c.alloc.new.looks (rw (c.self.view_is) at c.alloc.ensures.was) (returns-clause-looks g c)

pub returns-clause-some : goal.returns-clause-some
returns-clause-some g c =
    let f = c.self.inside.store.state in
    rw (← c.self.view_is) (subst (λ n. HasPlace f.space (up c.args.size f.atom) n → c.args.looks.now < c.alloc.new.looks) (alignment_is f.atom c.args.size c.args.align_mask c.alloc.ensures.was.atom) c.alloc.ensures.looks.1)
