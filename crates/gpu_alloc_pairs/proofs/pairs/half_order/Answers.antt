use Rattle.std.proofs.Common.{◌≡◌, true, ◌∙◌, sym, ap, arith}
use Rattle.std.specs.Int.{is_power_of_two}
use Rattle.gpu_alloc_base.proofs.PowersOfTwo.{bit_of_power, power_of_bit}
use Rattle.gpu_alloc_pairs.proofs.PutsBack.{same_order}
use Rattle.gpu_alloc_pairs.proofs.pairs.half_order.Goals as goal

pub returns-then-not-is_power_of_two : goal.returns-then-not-is_power_of_two
returns-then-not-is_power_of_two c = λ n lt is.
    let yes : is_power_of_two c.args.size ≡ true = ap is_power_of_two is ∙ bit_of_power n in
    let no = c.if-not-is_power_of_two.true in
    let told = c.is_power_of_two.ensures in
    absurd (cc)

pub order_of-order-requires : goal.order_of-order-requires
order_of-order-requires c = power_of_bit c.args.size (sym c.is_power_of_two.ensures ∙ c.if-not-is_power_of_two.false)

pub returns-else-order-lt-ORDERS : goal.returns-else-order-lt-ORDERS
returns-else-order-lt-ORDERS c = λ n lt is.
    omega (arith, lt, c.if-order-lt-ORDERS.false, same_order n c.order_of-order.result (sym is ∙ c.order_of-order.ensures.is))
