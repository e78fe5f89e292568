use Rattle.std.proofs.Common.{◌≡◌, ◌+◌}
use Rattle.gpu_alloc_pairs.specs.Lengths.{FindsNoneUpTo}
use Rattle.gpu_alloc_pairs.specs.Tree.{pair_at}
use Rattle.gpu_alloc_pairs.proofs.lengths.find.Given as goal

-- each length before was looked at, and has none
abbrev pub invariant-loop-n : goal.invariant-loop-n
invariant-loop-n g l = record { none : FindsNoneUpTo (pair_at l.lengths) l.order l.n; looked : l.looks + l.order ≡ l.fn.looks + l.n }
