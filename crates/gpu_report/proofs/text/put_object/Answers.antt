use Rattle.gpu_report.proofs.GoingOn.{goes_on}
use Rattle.gpu_report.proofs.text.put_object.Goals as goal

pub returns : goal.returns
returns c =
    let name = rw c.from.ensures at c.put_member-name.ensures in
    let size = rw c.from-2.ensures at c.put_member-size.ensures in
    let places = rw c.as_slice.ensures.value at c.put_places-places.ensures in
    let part = goes_on (goes_on name c.put_words-comma.ensures) c.put_part-part.ensures in
    let opened = goes_on (goes_on part size) c.put_words-open.ensures in
    goes_on (goes_on opened places) c.put_words.ensures
