use Rattle.gpu_report.proofs.GoingOn.{goes_on}
use Rattle.gpu_report.proofs.text.put_part.Goals as goal

pub returns : goal.returns
returns c =
    let number = rw c.from.ensures at c.put_member-number.ensures in
    let words = rw c.kind_words.ensures at c.put_words-words.ensures in
    goes_on (goes_on (goes_on number c.put_words-open.ensures) words) c.put_words.ensures
