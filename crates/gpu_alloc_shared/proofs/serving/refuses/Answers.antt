use Rattle.std.proofs.Common.{inr, refl}
use Rattle.gpu_alloc_base.specs.Accounts.{account}
use Rattle.gpu_alloc_shared.proofs.Grants.{never_first}
use Rattle.gpu_alloc_shared.proofs.serving.refuses.Goals as goal

pub returns-then-may_ask_for_any-clause-refuses : goal.returns-then-may_ask_for_any-clause-refuses
returns-then-may_ask_for_any-clause-refuses g c = λ flags.
    let may = c.may_ask_for_any.ensures c.if-may_ask_for_any.true c.args.size c.args.align_mask flags c.requires.serves in
    record { fits = may.0; ways = inr may.1 }

pub returns-then-may_ask_for_any-clause-looked : goal.returns-then-may_ask_for_any-clause-looked
returns-then-may_ask_for_any-clause-looked g c =
    let may = c.may_ask_for_any.ensures c.if-may_ask_for_any.true c.args.size c.args.align_mask 0 c.requires.serves in
    inr (never_first g.S.Store.rule (account (g.S.Store.state c.args.store.now) c.args.heap.now c.args.allocations_remains) _ 0 may.0 may.1, refl)
