use Rattle.std.proofs.Common.{◌≡◌, ◌≤◌, length, map, take, vec_len, vec_capacity}
use Rattle.gpu_alloc_pairs.specs.Store.{piece_range}
use Rattle.gpu_alloc_pairs.proofs.pairs.Pairs.ranges.Given as goal

-- that many were listed, in room for all
abbrev pub invariant-loop-piece : goal.invariant-loop-piece
invariant-loop-piece g l =
    (l.ranges.items ≡ map (piece_range l.fn.self.space) (take l.piece-index l.piece-items))
    × ((vec_len l.ranges ≡ l.piece-index) × (length l.piece-items ≤ vec_capacity l.ranges))
