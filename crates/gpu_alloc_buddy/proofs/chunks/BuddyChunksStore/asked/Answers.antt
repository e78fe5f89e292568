use Rattle.std.proofs.Common.{◌^◌, sym, subst, arith}
use Rattle.gpu_alloc_base.proofs.AlignedPowers.{pow-le}
use Rattle.gpu_alloc_buddy.specs.BuddyState.{Fits}
use Rattle.gpu_alloc_buddy.proofs.chunks.BuddyChunksStore.asked.Goals as goal

pub returns-then-order-gt62-clause-none : goal.returns-then-order-gt62-clause-none
returns-then-order-gt62-clause-none g c = λ fits.
    let short = subst (λ n. Fits (2 ^ n)) (sym c.rounded_order-order.ensures) fits in
    omega (arith, short, pow-le 63 c.rounded_order-order.result (omega (arith, c.if-order-gt62.true)))

pub returns-clause-some : goal.returns-clause-some
returns-clause-some g c = (c.rounded_order-order.ensures, omega (arith, pow-le c.rounded_order-order.result 62 (omega (arith, c.if-order-gt62.false))))
