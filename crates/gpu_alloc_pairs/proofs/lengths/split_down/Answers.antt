use Rattle.std.proofs.Common.{◌≡◌, ◌+◌, ◌-◌, false, Some, refl, sym, ◌∙◌, subst, arith}
use Rattle.gpu_alloc_base.specs.declared.piece.Piece.{Piece}
use Rattle.slab.specs.Slab.{Slab, HasRoomFor}
use Rattle.gpu_alloc_pairs.specs.Entry.{Entry}
use Rattle.gpu_alloc_pairs.specs.InHand.{IsTakenOut}
use Rattle.gpu_alloc_pairs.specs.Lengths.{hand_of}
use Rattle.gpu_alloc_pairs.specs.Tree.{pair_at}
use Rattle.gpu_alloc_pairs.specs.declared.pair.Side.TheVariants.{Left}
use Rattle.gpu_alloc_pairs.proofs.Splits.{halved, splits_next, added_divided, same_then_same}
use Rattle.gpu_alloc_pairs.proofs.lengths.split_down.Goals as goal

pub loop-hand-preserved : goal.loop-hand-preserved
loop-hand-preserved g c =
    let i = c.loop-hand.invariant in
    let below : c.loop-hand.hand.order ≡ c.loop-hand.hand.order - 1 + 1 = omega arith in
    let same = i.same in
    let next = added_divided _ _ _ _ _ c.split-key.ensures.adds refl refl in
    record {
      chunk = i.chunk;
      offset = i.offset;
      longer = omega arith;
      shorter = omega arith;
      count = c.split-key.ensures.count ∙ i.count;
      rooms = λ n low high. subst (λ (x : Slab Entry). HasRoomFor x 1) (sym (c.split-key.ensures.shorter n high)) (i.rooms n low (omega arith));
      counted = omega (arith, i.counted, c.split-key.ensures.counted);
      splitting = λ s begun. splits_next _ s _ _ _ (halved _ _ s (hand_of c.loop-hand.hand) (Some c.loop-hand.hand.parent) _ _ _ below c.split-key.ensures.adds (i.splitting s begun));
      same = same_then_same _ _ _ same next;
    }

pub returns-clause-out : goal.returns-clause-out
returns-clause-out g c s begun =
    let i = c.loop-hand.invariant in
    let one_more : c.loop-hand.hand.order ≡ c.args.order + 1 = omega arith in
    let out = halved _ _ s (hand_of c.loop-hand.hand) (Some c.loop-hand.hand.parent) _ _ _ one_more c.split.ensures.adds (i.splitting s begun) in
    subst (λ (z : Piece). IsTakenOut (pair_at c.split.new.lengths.items) s z c.split.result Left false) (λ k. record { chunk = i.chunk k; start = i.offset k; order = c.args.order }) out
