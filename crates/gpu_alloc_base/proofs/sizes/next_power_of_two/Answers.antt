use Rattle.std.proofs.Common.{◌≡◌, ◌*◌, ◌^◌, ◌%◌, IsTrue, sym, subst, arith}
use Rattle.std.specs.Int.{is_power_of_two}
use Rattle.gpu_alloc_base.proofs.PowersOfTwo.{bit_of_power, order_of_next}
use Rattle.gpu_alloc_base.proofs.sizes.next_power_of_two.Goals as goal

pub overflow_shl-result : goal.overflow_shl-result
overflow_shl-result c = let le = order_of_next c.args.n c.next_order.result c.requires c.next_order.ensures.least in omega (arith, le.0)

pub returns-clause-is : goal.returns-clause-is
returns-clause-is c = let le = order_of_next c.args.n c.next_order.result c.requires c.next_order.ensures.least in omega (arith, le.1, c.next_order.ensures.least)

pub returns-clause-power : goal.returns-clause-power
returns-clause-power c =
    let le = order_of_next c.args.n c.next_order.result c.requires c.next_order.ensures.least in
    let same : 1 * 2 ^ c.next_order.result % 18446744073709551616 ≡ 2 ^ c.next_order.result = omega (arith, le.1) in
    subst (λ n. IsTrue (is_power_of_two n)) (sym same) (bit_of_power c.next_order.result)
