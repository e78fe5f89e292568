use Rattle.std.proofs.Common.{◌<◌, ◌^◌, arith}
use Rattle.gpu_alloc_base.proofs.PowersOfTwo.{trailing_zeros-power}
use Rattle.gpu_alloc_pairs.proofs.pairs.order_of.Goals as goal

pub returns : goal.returns
returns c =
    let below : c.args.size < 2 ^ 64 = omega arith in
    let t = trailing_zeros-power c.args.size c.requires.0 c.requires.1 below in
    record { is = t.0; short = t.1 }
