use Rattle.gpu_report.proofs.GoingOn.{goes_on, written}
use Rattle.gpu_report.proofs.text.write_report.Goals as goal

pub returns : goal.returns
returns c =
    let heaps = rw c.as_slice.ensures.value at c.put_heaps-heaps.ensures in
    let types = rw c.memory_types.ensures at c.put_types-types.ensures in
    let kinds = rw c.as_slice-2.ensures.value at c.put_kinds-kinds.ensures in
    let objects = rw c.as_slice-3.ensures.value at c.put_objects-objects.ensures in
    let to_types = goes_on (goes_on (goes_on c.put_words-heaps.ensures heaps) c.put_words-types.ensures) types in
    let to_kinds = goes_on (goes_on to_types c.put_words-kinds.ensures) kinds in
    let to_objects = goes_on (goes_on to_kinds c.put_words-objects.ensures) objects in
    written (goes_on to_objects c.put_words.ensures)
