use Rattle.std.proofs.Common.{◌≡◌, ◌++◌, ◌∙◌, ap, sym}
use Rattle.slab.specs.Slab.{entries}
use Rattle.gpu_alloc_pairs.proofs.Listing.{entries_short, first_short, free_pieces, length_listed, none_listed, one_listed, rest_short}
use Rattle.gpu_alloc_pairs.proofs.length.Length.list_free.Goals as goal

pub loop-pair-init : goal.loop-pair-init
loop-pair-init g c =
    let left : c.into_iter-pair-iterator.result ≡ entries c.self.inside.pairs =
    c.into_iter-pair-iterator.ensures.into_iter_gives ∙ c.iter-pair-items.ensures.rest in (
      tt,
      tt,
      λ key p has. entries_short c.args.order c.self.inside.pairs c.args.self.now c.self.view_is c.requires.bounded key p
          (rw left at has),
      ap (λ l. c.args.pieces.now.items ++ l)
          (ap (free_pieces c.args.order) left
          ∙ sym (length_listed c.args.order c.self.inside.pairs c.args.self.now c.self.view_is)),
    )

pub free_piece-requires-clause-bounded : goal.free_piece-requires-clause-bounded
free_piece-requires-clause-bounded g c =
    first_short c.args.order c.in-Some.field-0-0 c.in-Some.pair.now _ _ c.in-Some.ensures.steps c.loop-pair.invariant.2

pub loop-pair-preserved-in-Continue-1 : goal.loop-pair-preserved-in-Continue-1
loop-pair-preserved-in-Continue-1 g c = (
  tt,
  tt,
  rest_short c.args.order _ _ _ c.in-Some.ensures.steps c.loop-pair.invariant.2,
  one_listed c.args.order _ _ _ _ _ _ c.in-Some.ensures.steps (c.in-Some-free_piece.ensures c.in-Some.field-0-0)
      c.in_ok-push.ensures.items ∙ c.loop-pair.invariant.3,
)

pub loop-pair-preserved : goal.loop-pair-preserved
loop-pair-preserved g c = (
  tt,
  tt,
  rest_short c.args.order _ _ _ c.in-Some.ensures.steps c.loop-pair.invariant.2,
  none_listed c.args.order _ _ _ _ c.in-Some.ensures.steps (c.in_default.ensures c.in-Some.field-0-0)
      ∙ c.loop-pair.invariant.3,
)
