use Rattle.std.proofs.Common.{◌≡◌, ap, sym, ◌∙◌, inl, inr, arith}
use Rattle.slab.proofs.SlabLemmas.{Contains-cons, Contains-cons_cases}
use Rattle.gpu_alloc_base.proofs.Lists.{contains_head, contains_none}
use Rattle.gpu_alloc.proofs.allocator.listing.row_of.Goals as goal

pub loop-chunk-init : goal.loop-chunk-init
loop-chunk-init g c = (tt, tt, λ e has same. has, λ e has. has)

pub entry-name-requires : goal.entry-name-requires
entry-name-requires g c = c.requires (c.in-Some.field-0-0, c.in-Some.chunk.now) (rw c.into_iter-chunk-iterator.ensures.into_iter_gives at (c.loop-chunk.invariant.3 (c.in-Some.field-0-0, c.in-Some.chunk.now) (rw c.in-Some.ensures.steps (contains_head _ _))))

pub loop-chunk-preserved : goal.loop-chunk-preserved
loop-chunk-preserved g c =
    let at = c.in-Some.ensures.steps in (
      tt,
      tt,
      λ e has same. elim (Contains-cons_cases _ _ _ (rw at at (c.loop-chunk.invariant.2 e has same))) [
        | inl is ↦ absurd (
            let here = ap (λ x. (g.C.ListedChunk.listed x.1 c.args.memory_type).0) is in
            omega (arith, ap (λ x. x.0) c.entry-name.ensures, here, same, c.if-name-object.false))
        | inr rest ↦ rest
      ],
      λ e has. c.loop-chunk.invariant.3 e (rw at (Contains-cons _ _ _ has)),
    )

pub returns-then-name-object : goal.returns-then-name-object
returns-then-name-object g c =
    let here = c.loop-chunk.invariant.3 (c.in-Some.field-0-0, c.in-Some.chunk.now) (rw c.in-Some.ensures.steps (contains_head _ _)) in
    let name : c.entry-name.result.0 ≡ c.args.object = omega (arith, c.if-name-object.true) in
    ((c.in-Some.field-0-0, c.in-Some.chunk.now), rw c.into_iter-chunk-iterator.ensures.into_iter_gives at here, sym c.entry-name.ensures ∙ (λ i. (name i, c.entry-name.result.1)))

pub returns : goal.returns
returns g c = λ e has same.
    let there = c.loop-chunk.invariant.2 e (rw c.into_iter-chunk-iterator.ensures.into_iter_gives has) same in
    absurd (contains_none e (rw c.in-None.ensures.steps.0 at there))
