use Rattle.std.proofs.Common.{◌<◌, ◌∙◌, arith}
use Rattle.gpu_report.proofs.Digits.{digits, at-most, share_is}
use Rattle.gpu_report.proofs.sums.thousandths.Goals as goal

pub overflow_cast-result : goal.overflow_cast-result
overflow_cast-result c =
    let some : 0 < c.args.whole = omega arith in
    omega (arith, digits c.args.part c.args.whole some, at-most c.args.part c.args.whole some c.requires.part)

pub returns : goal.returns
returns c =
    let some : 0 < c.args.whole = omega arith in
    digits c.args.part c.args.whole some ∙ share_is c.args.part c.args.whole some
