use Rattle.std.proofs.Common.{◌≡◌, ◌+◌, ◌-◌, ◌<◌, ◌≤◌, length, Some}
use Rattle.gpu_alloc_pairs.specs.InHand.{IsSplitting, IsTakenSame}
use Rattle.gpu_alloc_pairs.specs.Lengths.{HasRoomsFor, hand_of}
use Rattle.gpu_alloc_pairs.specs.Space.{BuddySpace}
use Rattle.gpu_alloc_pairs.specs.Tree.{pair_at}
use Rattle.gpu_alloc_pairs.proofs.lengths.split_down.Given as goal

-- what is in hand is the front of what was, and the live blocks are the same
abbrev pub invariant-loop-hand : goal.invariant-loop-hand
invariant-loop-hand g l = record {
  chunk : l.hand.chunk ≡ l.fn.hand.chunk;
  offset : l.hand.offset ≡ l.fn.hand.offset;
  longer : l.order < l.hand.order;
  shorter : l.hand.order ≤ l.fn.hand.order;
  count : length l.lengths.items ≡ length l.fn.lengths.items;
  rooms : HasRoomsFor l.lengths.items l.order l.hand.order;
  counted : l.splits + l.hand.order ≡ l.fn.splits + l.fn.hand.order;
  splitting : (s : BuddySpace) → IsSplitting (pair_at l.fn.lengths.items) s (hand_of l.fn.hand) (Some l.fn.hand.parent)
      → IsSplitting (pair_at l.lengths.items) s (hand_of l.hand) (Some l.hand.parent);
  same : IsTakenSame (pair_at l.fn.lengths.items) (pair_at l.lengths.items);
}

abbrev pub decreases-loop-hand : goal.decreases-loop-hand
decreases-loop-hand g l = l.hand.order - l.order
