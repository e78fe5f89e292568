use Rattle.std.proofs.Common.{◌++◌, ◌∙◌, ap, map}
use Rattle.gpu_alloc.proofs.Tables.Listed.{pushed_all}
use Rattle.gpu_alloc.proofs.WholeLists.{slot_row, slot_rows_are, slot_rows_once}
use Rattle.gpu_alloc.proofs.allocator.listing.list_slots.Goals as goal

pub returns : goal.returns
returns g c =
    let listed = c.slots-key-items.result in
    let is = pushed_all slot_row c.args.rows.now.items c.loop-key.rows.items listed c.loop-key.key-iterator c.in-None.ensures.steps.0
    (c.loop-key.invariant.2 ∙ ap (λ es. c.args.rows.now.items ++ map slot_row es) c.into_iter-key-iterator.ensures.into_iter_gives) in
    (map slot_row listed, is, (slot_rows_are c.args.list.now c.requires.sound listed c.slots-key-items.ensures, slot_rows_once c.args.list.now c.requires.sound listed c.slots-key-items.ensures))
