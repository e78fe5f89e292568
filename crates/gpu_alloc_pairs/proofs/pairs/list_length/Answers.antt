use Rattle.std.proofs.Common.{◌++◌, ◌∙◌, ap, refl, sym}
use Rattle.slab.proofs.SlabLemmas.{Contains-cons, Contains-entries}
use Rattle.gpu_alloc_base.proofs.Lists.{contains_head}
use Rattle.gpu_alloc_pairs.specs.Blocks.{chunks_in}
use Rattle.gpu_alloc_pairs.specs.Halves.{leaf_of}
use Rattle.gpu_alloc_pairs.specs.Seen.{seen}
use Rattle.gpu_alloc_pairs.specs.declared.pair.Use.TheVariants.{Taken}
use Rattle.gpu_alloc_pairs.proofs.Listing.{length_made, made, pair_made}
use Rattle.gpu_alloc_pairs.proofs.pairs.list_length.Goals as goal

pub loop-key-init : goal.loop-key-init
loop-key-init g c =
    let left = c.into_iter-key-iterator.ensures.into_iter_gives ∙ c.iter-key-items.ensures.rest in
    let make = leaf_of (chunks_in g.M.MemoryObject.object c.args.chunks.now) in (
      tt,
      tt,
      λ key p has. c.requires.placed key p ((Contains-entries c.args.pairs.now key p).0 (rw left at has)),
      ap (λ l. c.args.leaves.now.items ++ l)
          (ap (made Taken make c.args.order) left ∙ sym (length_made Taken make c.args.order c.args.pairs.now (seen c.args.pairs.now) refl)),
    )

pub list_half-requires-clause-placed : goal.list_half-requires-clause-placed
list_half-requires-clause-placed g c = c.loop-key.invariant.2 c.in-Some.key c.in-Some.pair.now (rw c.in-Some.ensures.steps (contains_head _ _))

pub list_half-requires-in-loop-key-clause-placed : goal.list_half-requires-in-loop-key-clause-placed
list_half-requires-in-loop-key-clause-placed g c = c.loop-key.invariant.2 c.in-Some.key c.in-Some.pair.now (rw c.in-Some.ensures.steps (contains_head _ _))

pub loop-key-preserved : goal.loop-key-preserved
loop-key-preserved g c = (
  tt,
  tt,
  λ key p has. c.loop-key.invariant.2 key p (rw c.in-Some.ensures.steps (Contains-cons _ _ _ has)),
  pair_made Taken (leaf_of (chunks_in g.M.MemoryObject.object c.args.chunks.now)) c.args.order _ _ _ _ _ _ c.in-Some.ensures.steps c.in_ok-list_half.ensures c.in_ok-list_half-2.ensures
      ∙ c.loop-key.invariant.3,
)
