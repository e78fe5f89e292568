use Rattle.gpu_report.proofs.GoingOn.{goes_on}
use Rattle.gpu_report.proofs.text.put_heap.Goals as goal

pub returns : goal.returns
returns c =
    let size = rw c.from.ensures at c.put_member-size.ensures in
    let limit = rw c.from-2.ensures at c.put_member-limit.ensures in
    let budget = rw c.from-3.ensures at c.put_member-budget.ensures in
    goes_on (goes_on (goes_on (goes_on size limit) c.put_member-used.ensures) budget) c.put_words.ensures
