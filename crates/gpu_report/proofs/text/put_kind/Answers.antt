use Rattle.gpu_report.proofs.GoingOn.{goes_on}
use Rattle.gpu_report.proofs.text.put_kind.Goals as goal

pub returns : goal.returns
returns c =
    let objects = rw c.from.ensures at c.put_member-objects.ensures in
    let blocks = rw c.from-blocks.ensures at c.put_member-blocks.ensures in
    let largest = rw c.from-largest.ensures at c.put_member-largest.ensures in
    let scattered = rw c.from-scattered.ensures at c.put_member-scattered.ensures in
    let part = goes_on c.put_words-part.ensures c.put_part-part.ensures in
    let live = goes_on (goes_on (goes_on part objects) blocks) c.put_member-live.ensures in
    let free = goes_on (goes_on (goes_on live c.put_member-asked.ensures) c.put_member-free.ensures) largest in
    goes_on (goes_on free scattered) c.put_words.ensures
