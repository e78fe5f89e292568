use Rattle.std.proofs.Common.{◌≡◌, true, false, refl, sym}
use Rattle.gpu_alloc_base.specs.declared.piece.Piece.{Piece}
use Rattle.gpu_alloc_base.proofs.ExactPieces.{same_piece}
use Rattle.gpu_alloc_pairs.specs.Tree.{Pairs, pair_at}
use Rattle.gpu_alloc_pairs.specs.declared.pair.Side.TheVariants.{Left}
use Rattle.gpu_alloc_pairs.proofs.Fronts.{half_piece, half_out, half_more, half_same}
use Rattle.gpu_alloc_pairs.proofs.Splits.{splits_next, same_then_more}
use Rattle.gpu_alloc_pairs.proofs.lengths.take_front.Goals as goal

pub returns-then-length-order-clause-taken : goal.returns-then-length-order-clause-taken
returns-then-length-order-clause-taken g c s tree canonical =
    let P : Pairs = pair_at c.args.lengths.now.items in
    let Q : Pairs = pair_at c.take.new.lengths.items in
    let h = c.args.found.half in
    let z : Piece = record { chunk = h.chunk; start = c.start_of-offset.result; order = c.args.order } in
    let is : z ≡ half_piece h c.args.found.order = same_piece z (half_piece h c.args.found.order) refl c.start_of-offset.ensures (sym c.if-length-order.true) in
    record { side = h.side; out = half_out P Q c.args.found.order h false c.take.ensures.sets s tree canonical z is; more = half_more P Q c.args.found.order h c.take.ensures.sets z is }

pub returns-clause-taken : goal.returns-clause-taken
returns-clause-taken g c s tree canonical =
    let P : Pairs = pair_at c.args.lengths.now.items in
    let Q : Pairs = pair_at c.take-2.new.lengths.items in
    let R : Pairs = pair_at c.split_down-key.new.lengths.items in
    let h = c.args.found.half in
    let z : Piece = record { chunk = h.chunk; start = c.start_of-offset.result; order = c.args.found.order } in
    let w : Piece = record { chunk = h.chunk; start = c.start_of-offset.result; order = c.args.order } in
    let is : z ≡ half_piece h c.args.found.order = same_piece z (half_piece h c.args.found.order) refl c.start_of-offset.ensures refl in
    record {
      side = Left;
      out = c.split_down-key.ensures.out s (splits_next Q s z h.key h.side (half_out P Q c.args.found.order h true c.take-2.ensures.sets s tree canonical z is));
      more = same_then_more P Q R w c.split_down-key.result Left (half_same P Q c.args.found.order h c.take-2.ensures.sets) c.split_down-key.ensures.more;
    }
