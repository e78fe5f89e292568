use Rattle.std.proofs.Common.{ap, inl, inr, sym, ◌∙◌}
use Rattle.slab.proofs.SlabLemmas.{Contains-cons, Contains-cons_cases, Contains-entries}
use Rattle.gpu_alloc_base.proofs.Lists.{contains_head}
use Rattle.gpu_alloc_freelist.proofs.LiveBlocks.{fields_test}
use Rattle.gpu_alloc_freelist.proofs.freelist.live.search.Goals as goal

pub loop-key-init : goal.loop-key-init
loop-key-init g c =
    let left = c.into_iter-key-iterator.ensures.into_iter_gives ∙ c.iter-key-items.ensures.rest in (
      tt,
      tt,
      λ key at. rw left ((Contains-entries c.args.slots.now key c.args.slot).1 at),
      λ key has. (Contains-entries c.args.slots.now key c.args.slot).0 (rw left at has),
    )

pub loop-key-preserved : goal.loop-key-preserved
loop-key-preserved g c =
    let at = c.in-Some.ensures.steps in (
      tt,
      tt,
      λ key stands. elim (Contains-cons_cases _ _ _ (rw at at (c.loop-key.invariant.2 key stands))) [
        | inl same ↦ absurd (
            let test = (fields_test c.in-Some.there.now c.args.slot).1 (ap (λ e. e.1) same) in
            let is = c.eq.ensures in
            let no = c.if-eq.false in
            cc)
        | inr rest ↦ rest
      ],
      λ key has. c.loop-key.invariant.3 key (rw at (Contains-cons _ _ _ has)),
    )

pub returns-then-eq : goal.returns-then-eq
returns-then-eq g c =
    let same = (fields_test c.in-Some.there.now c.args.slot).0 (sym c.eq.ensures ∙ c.if-eq.true) in
    c.loop-key.invariant.3 c.in-Some.key (rw (c.in-Some.ensures.steps, same) (contains_head _ _))
