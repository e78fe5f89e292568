use Rattle.std.proofs.Common.{◌≡◌, ◌++◌, map}
use Rattle.gpu_alloc_pairs.specs.Halves.{HalfAt, halves_of_length}
use Rattle.gpu_alloc_pairs.specs.declared.pair.Use.TheVariants.{Free}
use Rattle.gpu_alloc_pairs.proofs.Listing.{AreShort, free_pieces}
use Rattle.gpu_alloc_pairs.proofs.length.Length.list_free.Given as goal

-- the pieces so far and those of the pairs that are left are all
abbrev pub invariant-loop-pair : goal.invariant-loop-pair
invariant-loop-pair g l =
    (goal.iterator-loop-pair g).can_next l.pair-iterator ×
    (goal.iterator-loop-pair g).is_finite l.pair-iterator ×
    AreShort l.order l.pair-iterator ×
    (l.pieces.items ++ free_pieces l.order l.pair-iterator
    ≡ l.fn.pieces.items ++ map (λ (h : HalfAt). h.piece) (halves_of_length Free l.order l.self))
