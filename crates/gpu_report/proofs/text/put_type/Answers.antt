use Rattle.gpu_report.proofs.GoingOn.{goes_on}
use Rattle.gpu_report.proofs.text.put_type.Goals as goal

pub returns : goal.returns
returns c =
    let heap = rw c.from.ensures at c.put_member-heap.ensures in
    let properties = rw (c.from-bits.ensures, c.bits.ensures) at c.put_member-properties.ensures in
    goes_on (goes_on heap properties) c.put_words.ensures
