use Rattle.std.proofs.Common.{ap, inl, inr, ◌∙◌}
use Rattle.slab.proofs.SlabLemmas.{Contains-cons, Contains-cons_cases, Contains-entries}
use Rattle.gpu_alloc_base.proofs.Lists.{contains_head}
use Rattle.gpu_answers.specs.Objects.{name_in}
use Rattle.gpu_answers.proofs.objects.search.Goals as goal

pub loop-place-init : goal.loop-place-init
loop-place-init c =
    let left = c.into_iter-place-iterator.ensures.into_iter_gives ∙ c.iter-place-items.ensures.rest in (
      tt,
      tt,
      λ place row at is. rw left ((Contains-entries c.args.rows.now place row).1 at),
      λ place row has. (Contains-entries c.args.rows.now place row).0 (rw left at has),
    )

pub loop-place-preserved : goal.loop-place-preserved
loop-place-preserved c =
    let at = c.in-Some.ensures.steps in (
      tt,
      tt,
      λ place row stands is. elim (Contains-cons_cases _ _ _ (rw at at (c.loop-place.invariant.2 place row stands is))) [
        | inl same ↦ absurd (
            c.if-row-name.false (ap (λ e. name_in e.1) same ∙ is))
        | inr rest ↦ rest
      ],
      λ place row has. c.loop-place.invariant.3 place row (rw at (Contains-cons _ _ _ has)),
    )

pub returns-then-row-name : goal.returns-then-row-name
returns-then-row-name c =
    (c.in-Some.row.now, c.loop-place.invariant.3 _ _ (rw c.in-Some.ensures.steps (contains_head _ _)), c.if-row-name.true)
