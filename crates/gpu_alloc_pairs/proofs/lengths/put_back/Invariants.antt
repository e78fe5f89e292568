use Rattle.std.proofs.Common.{◌≡◌, ◌+◌, ◌-◌, ◌≤◌, length}
use Rattle.gpu_alloc_base.specs.declared.piece.Piece.{Piece}
use Rattle.gpu_alloc_pairs.specs.InHand.{IsReturning}
use Rattle.gpu_alloc_pairs.specs.Lengths.{ComesBack}
use Rattle.gpu_alloc_pairs.specs.Space.{BuddySpace}
use Rattle.gpu_alloc_pairs.specs.Tree.{pair_at}
use Rattle.gpu_alloc_pairs.proofs.Climbs.{IsClimbed}
use Rattle.gpu_alloc_pairs.proofs.lengths.put_back.Given as goal

-- what came back has become this half
abbrev pub invariant-loop-whole : goal.invariant-loop-whole
invariant-loop-whole g l = record {
  count : length l.lengths.items ≡ 63;
  comes : ComesBack (pair_at l.lengths.items) l.length l.pair l.half;
  climbed : (s : BuddySpace) (z : Piece) → z.order ≡ l.fn.order → IsReturning (pair_at l.fn.lengths.items) s z l.fn.key l.fn.side
      → IsClimbed (pair_at l.fn.lengths.items) (pair_at l.lengths.items) s z l.length l.pair l.half;
  counted : l.releases + l.fn.order ≡ l.fn.releases + l.length;
  upwards : l.fn.order ≤ l.length;
}

abbrev pub decreases-loop-whole : goal.decreases-loop-whole
decreases-loop-whole g l = 63 - l.length
