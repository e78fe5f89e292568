use Rattle.gpu_report.proofs.GoingOn.{goes_on}
use Rattle.gpu_report.proofs.text.put_place.Goals as goal

pub returns : goal.returns
returns c =
    let offset = rw c.from.ensures at c.put_member-offset.ensures in
    let size = rw c.from-2.ensures at c.put_member-size.ensures in
    goes_on (goes_on (goes_on c.put_key-key.ensures offset) size) c.put_words.ensures
