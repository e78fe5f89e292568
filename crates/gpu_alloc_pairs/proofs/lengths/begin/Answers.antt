use Rattle.std.proofs.Common.{◌≡◌, ℕ, ◌+◌, ◌-◌, None, true, false, refl, subst, arith}
use Rattle.gpu_alloc_pairs.specs.InHand.{IsTakenMore, IsTakenOut}
use Rattle.gpu_alloc_pairs.specs.Lengths.{dividing, whole_of}
use Rattle.gpu_alloc_pairs.specs.Tree.{Pairs, pair_at}
use Rattle.gpu_alloc_pairs.specs.declared.pair.Side.TheVariants.{Left}
use Rattle.gpu_alloc_pairs.proofs.Splits.{halved, splits_next, added_divided, added_whole, same_then_more}
use Rattle.gpu_alloc_pairs.proofs.lengths.begin.Goals as goal

pub returns-then-top-order-clause-out : goal.returns-then-top-order-clause-out
returns-then-top-order-clause-out g c s begun =
    let one_more : c.args.chunk_order ≡ c.args.chunk_order - 1 + 1 = omega arith in
    let P : Pairs = pair_at c.args.lengths.now.items in
    let Q : Pairs = pair_at c.halve.new.lengths.items in
    let out = halved P Q s (whole_of c.args.chunk c.args.chunk_order) None (c.args.chunk_order - 1) c.halve.result false one_more c.halve.ensures.adds begun in
    subst (λ (n : ℕ). IsTakenOut Q s (whole_of c.args.chunk n) c.halve.result Left false) c.if-top-order.true out

pub returns-then-top-order-clause-more : goal.returns-then-top-order-clause-more
returns-then-top-order-clause-more g c =
    let P : Pairs = pair_at c.args.lengths.now.items in
    let Q : Pairs = pair_at c.halve.new.lengths.items in
    subst (λ (n : ℕ). IsTakenMore P Q (whole_of c.args.chunk n) c.halve.result Left) c.if-top-order.true
    (added_whole P Q (c.args.chunk_order - 1) c.halve.result (dividing (whole_of c.args.chunk (c.args.chunk_order - 1 + 1)) None false) c.halve.ensures.adds refl refl)

pub returns-clause-out : goal.returns-clause-out
returns-clause-out g c s begun =
    let one_more : c.args.chunk_order ≡ c.args.chunk_order - 1 + 1 = omega arith in
    let P : Pairs = pair_at c.args.lengths.now.items in
    let Q : Pairs = pair_at c.halve-key.new.lengths.items in
    let out = halved P Q s (whole_of c.args.chunk c.args.chunk_order) None (c.args.chunk_order - 1) c.halve-key.result true one_more c.halve-key.ensures.adds begun in
    c.split_down.ensures.out s (splits_next Q s (whole_of c.args.chunk (c.args.chunk_order - 1)) c.halve-key.result Left out)

pub returns-clause-more : goal.returns-clause-more
returns-clause-more g c =
    let P : Pairs = pair_at c.args.lengths.now.items in
    let Q : Pairs = pair_at c.halve-key.new.lengths.items in
    let R : Pairs = pair_at c.split_down.new.lengths.items in
    same_then_more P Q R (whole_of c.args.chunk c.args.order) c.split_down.result Left
    (added_divided P Q (c.args.chunk_order - 1) c.halve-key.result (dividing (whole_of c.args.chunk (c.args.chunk_order - 1 + 1)) None true) c.halve-key.ensures.adds refl refl)
    c.split_down.ensures.more
