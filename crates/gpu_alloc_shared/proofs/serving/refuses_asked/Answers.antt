use Rattle.std.proofs.Common.{inl, inr, refl, subst}
use Rattle.std.proofs.lemmas.Bool.{iff_false}
use Rattle.std.specs.Prelude.{Some}
use Rattle.gpu_alloc_base.specs.Accounts.{account}
use Rattle.gpu_alloc_base.specs.Case.{RefusesFirst}
use Rattle.gpu_alloc_base.proofs.Unasked.{refuses_unasked}
use Rattle.gpu_alloc_shared.specs.Shared.{CountsRefusing, ask_case}
use Rattle.gpu_alloc_shared.proofs.Grants.{looks_first, never_first}
use Rattle.gpu_alloc_shared.proofs.serving.refuses_asked.Goals as goal

pub returns-in_err-refusal-clause-refuses : goal.returns-in_err-refusal-clause-refuses
returns-in_err-refusal-clause-refuses g c = rw (c.from_residual.ensures) (λ flags. record {
  fits = subst g.S.Store.rule.Fits c.in-Some.ensures.some.0 c.in-Some.ensures.some.1;
  ways = inr (rw (c.in-Some.ensures.some.0) at (c.in_err-refusal.ensures flags));
})

pub returns-in_err-refusal-clause-looked : goal.returns-in_err-refusal-clause-looked
returns-in_err-refusal-clause-looked g c =
    let a = account (g.S.Store.state c.args.store.now) c.args.heap.now c.args.allocations_remains in
    subst (λ ask. CountsRefusing g.S.Store.rule a ask c.args.looks.now c.args.looks.now) c.in-Some.ensures.some.0
    (inr (never_first g.S.Store.rule a c.in-Some.ask 0 c.in-Some.ensures.some.1 (c.in_err-refusal.ensures 0), refl))

pub returns-then-has_place-clause-looked : goal.returns-then-has_place-clause-looked
returns-then-has_place-clause-looked g c =
    let a = account (g.S.Store.state c.args.store.now) c.args.heap.now c.args.allocations_remains in
    subst (λ ask. CountsRefusing g.S.Store.rule a ask c.args.looks.now c.has_place.new.looks) c.in-Some.ensures.some.0
    (inl (looks_first g.S.Store.rule a c.in-Some.ask 0 c.in-Some.ensures.some.1 c.in_ok-refusal.refusal (c.in_ok-refusal.ensures 0), c.has_place.ensures.looked))

pub returns-clause-looked : goal.returns-clause-looked
returns-clause-looked g c =
    let a = account (g.S.Store.state c.args.store.now) c.args.heap.now c.args.allocations_remains in
    subst (λ ask. CountsRefusing g.S.Store.rule a ask c.args.looks.now c.has_place.new.looks) c.in-Some.ensures.some.0
    (inl (looks_first g.S.Store.rule a c.in-Some.ask 0 c.in-Some.ensures.some.1 c.in_ok-refusal.refusal (c.in_ok-refusal.ensures 0), c.has_place.ensures.looked))

pub returns-clause-refuses : goal.returns-clause-refuses
returns-clause-refuses g c = λ flags.
    let a = account (g.S.Store.state c.args.store.now) c.args.heap.now c.args.allocations_remains in
    subst (λ ask. RefusesFirst (ask_case g.S.Store.rule a ask flags) (Some c.in_ok-refusal.refusal)) c.in-Some.ensures.some.0
    (refuses_unasked (ask_case g.S.Store.rule a c.in-Some.ask flags) c.in-Some.ensures.some.1 (iff_false c.has_place.ensures.place c.if-has_place.false) c.in_ok-refusal.refusal (c.in_ok-refusal.ensures flags))
