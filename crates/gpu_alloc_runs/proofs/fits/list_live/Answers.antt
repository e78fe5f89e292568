use Rattle.std.proofs.Common.{◌≡◌, ◌-◌, ◌++◌, cond, Some, None, sym, ◌∙◌, ap}
use Rattle.std.specs.FinMap as map
use Rattle.gpu_alloc_base.specs.Chunks.{object_in}
use Rattle.gpu_alloc_runs.specs.Inside.{chunks_of_rows, live_row, listed, leaf_of_slot, slot_of}
use Rattle.gpu_alloc_runs.proofs.Chunks.{object_of_row}
use Rattle.gpu_alloc_runs.proofs.fits.list_live.Goals as goal

pub returns : goal.returns
returns g c =
    let chunks = chunks_of_rows g.M.MemoryObject.object c.args.chunks.now in
    let named : c.object.result ≡ object_in (map.get chunks c.args.tile.chunk) = c.object.ensures ∙ sym (object_of_row g.M.MemoryObject.object c.args.chunks.now c.args.tile.chunk c.index.result.now c.index.ensures) in
    let made : live_row chunks c.args.tile ≡ Some (_) = ap (λ b. cond b None (Some (leaf_of_slot (slot_of chunks c.args.tile)))) c.if-tile.false in
    c.in_ok-push.ensures.items ∙ (λ i. c.args.rows.now.items ++ listed (Some (record { object = named i; chunk = c.args.tile.chunk; offset = c.args.tile.start; size = c.args.tile.end - c.args.tile.start; index = 0 }))) ∙ ap (λ o. c.args.rows.now.items ++ listed o) (sym made)
