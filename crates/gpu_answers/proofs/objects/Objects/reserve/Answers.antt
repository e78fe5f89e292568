use Rattle.std.proofs.Common.{arith}
use Rattle.gpu_answers.proofs.ObjectRows.{few}
use Rattle.gpu_answers.proofs.objects.Objects.reserve.Goals as goal

pub returns-clause-count : goal.returns-clause-count
returns-clause-count c =
    let most = few c.reserve.new.self in
    let all = c.len.ensures in
    omega (arith, most, all)
