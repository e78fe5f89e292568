use Rattle.std.proofs.Common.{subst}
use Rattle.gpu_alloc_base.specs.Accounts.{account}
use Rattle.gpu_alloc_base.specs.Sizes.{up}
use Rattle.gpu_alloc_base.specs.Wanted.{wanted}
use Rattle.gpu_alloc_fit.specs.FitRule.{fit_ask}
use Rattle.gpu_alloc_runs.specs.Space.{LooksAtFew}
use Rattle.gpu_alloc_shared.proofs.Sized.{alignment_is}
use Rattle.gpu_alloc_fit.proofs.FitAnswers.{refuses_so}
use Rattle.gpu_alloc_fit.proofs.FitLooks.{one_looked_at, refusing_so}
use Rattle.gpu_alloc_fit.proofs.fit.FitAllocator.refuses.Goals as goal

pub returns-clause-refuses : goal.returns-clause-refuses
returns-clause-refuses g c = λ flags.
    rw (← c.self.view_is) (refuses_so (account c.self.inside.store.state c.args.heap.now c.args.allocations_remains) (wanted c.args.size c.args.align_mask flags) c.keeps_sound.ensures c.refuses.result (c.refuses.ensures.refuses flags))

pub returns-clause-looks : goal.returns-clause-looks
returns-clause-looks g c =
    let f = c.self.inside.store.state in
    let looked = refusing_so f (fit_ask f c.args.size c.args.align_mask) c.args.looks.now c.refuses.new.looks c.args.heap.now c.args.allocations_remains c.refuses.ensures.looked in
    rw (← c.self.view_is) (subst (λ n. LooksAtFew f.space (up c.args.size f.atom) n c.args.looks.now c.refuses.new.looks) (alignment_is f.atom c.args.size c.args.align_mask c.keeps_sound.ensures.atom) looked)

pub returns-clause-one : goal.returns-clause-one
returns-clause-one g c =
    one_looked_at c.args.self.now (up c.args.size c.args.self.now.atom) c.args.align_mask c.args.looks.now c.refuses.new.looks (rw (c.self.view_is) at c.keeps_sound.ensures) (returns-clause-looks g c)
