use Rattle.std.proofs.Common.{◌≡◌, true, ap, inl, inr, ◌∙◌, sym, subst}
use Rattle.slab.proofs.SlabLemmas.{Contains-cons, Contains-cons_cases, Contains-entries}
use Rattle.gpu_alloc_base.proofs.Lists.{contains_head}
use Rattle.gpu_alloc_pairs.specs.Blocks.{HasSpan, chunks_in}
use Rattle.gpu_alloc_pairs.specs.Entry.{entry_of}
use Rattle.gpu_alloc_pairs.specs.declared.pair.Pair.{Pair}
use Rattle.gpu_alloc_pairs.proofs.pairs.search.Goals as goal

pub loop-key-init : goal.loop-key-init
loop-key-init g c =
    let left = c.into_iter-key-iterator.ensures.into_iter_gives ∙ c.iter-key-items.ensures.rest in (
      tt,
      tt,
      λ key p at is. rw left ((Contains-entries c.args.pairs.now key p).1 at),
      λ key p has. (Contains-entries c.args.pairs.now key p).0 (rw left at has),
    )

pub is_of-requires-clause-placed : goal.is_of-requires-clause-placed
is_of-requires-clause-placed g c =
    c.requires.placed c.in-Some.key c.in-Some.pair.now (c.loop-key.invariant.3 _ _ (rw c.in-Some.ensures.steps (contains_head _ _)))

pub loop-key-preserved : goal.loop-key-preserved
loop-key-preserved g c =
    let at = c.in-Some.ensures.steps in (
      tt,
      tt,
      λ key p stands is. elim (Contains-cons_cases _ _ _ (rw at at (c.loop-key.invariant.2 key p stands is))) [
        | inl same ↦ absurd (
            let here : HasSpan (chunks_in g.M.MemoryObject.object c.args.chunks.now) c.args.order c.args.object c.args.offset (entry_of c.in-Some.pair.now) =
            subst (λ (q : Pair). HasSpan (chunks_in g.M.MemoryObject.object c.args.chunks.now) c.args.order c.args.object c.args.offset (entry_of q)) (sym (ap (λ e. e.1) same)) is in
            let test : c.is_of.result ≡ true = c.is_of.ensures.1 here in
            let no = c.if-is_of.false in
            cc)
        | inr rest ↦ rest
      ],
      λ key p has. c.loop-key.invariant.3 key p (rw at (Contains-cons _ _ _ has)),
    )

pub returns-then-is_of : goal.returns-then-is_of
returns-then-is_of g c =
    (c.in-Some.pair.now, c.loop-key.invariant.3 _ _ (rw c.in-Some.ensures.steps (contains_head _ _)), c.is_of.ensures.0 c.if-is_of.true)
