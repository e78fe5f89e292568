use Rattle.std.proofs.Common.{◌≡◌, true, ap, inl, inr, ◌∙◌}
use Rattle.slab.proofs.SlabLemmas.{Contains-cons, Contains-cons_cases, Contains-entries}
use Rattle.gpu_alloc_base.proofs.Lists.{contains_head}
use Rattle.gpu_alloc.proofs.own.search.Goals as goal

pub loop-key-init : goal.loop-key-init
loop-key-init g c =
    let left = c.into_iter-key-iterator.ensures.into_iter_gives ∙ c.iter-key-items.ensures.rest in (
      tt,
      tt,
      λ key row at is. rw left ((Contains-entries c.args.rows.now key row).1 at),
      λ key row has. (Contains-entries c.args.rows.now key row).0 (rw left at has),
    )

pub loop-key-preserved : goal.loop-key-preserved
loop-key-preserved g c =
    let at = c.in-Some.ensures.steps in (
      tt,
      tt,
      λ key row stands is. elim (Contains-cons_cases _ _ _ (rw at at (c.loop-key.invariant.2 key row stands is))) [
        | inl same ↦ absurd (
            let here = ap (λ e. e.1.object) same in
            let test : c.is_of.result ≡ true = c.is_of.ensures.1 (here ∙ is) in
            let no = c.if-is_of.false in
            cc)
        | inr rest ↦ rest
      ],
      λ key row has. c.loop-key.invariant.3 key row (rw at (Contains-cons _ _ _ has)),
    )

pub returns-then-is_of : goal.returns-then-is_of
returns-then-is_of g c =
    (c.in-Some.row.now, c.loop-key.invariant.3 _ _ (rw c.in-Some.ensures.steps (contains_head _ _)), c.is_of.ensures.0 c.if-is_of.true)
