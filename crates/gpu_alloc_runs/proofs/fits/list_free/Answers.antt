use Rattle.std.proofs.Common.{◌≡◌, ◌++◌, cond, Some, None, sym, ◌∙◌, ap}
use Rattle.std.specs.FinMap as map
use Rattle.gpu_alloc_base.specs.Chunks.{object_in}
use Rattle.gpu_alloc_runs.specs.Inside.{chunks_of_rows, free_range, listed}
use Rattle.gpu_alloc_runs.proofs.Chunks.{object_of_row}
use Rattle.gpu_alloc_runs.proofs.Joins.{unnot}
use Rattle.gpu_alloc_runs.proofs.fits.list_free.Goals as goal

pub returns : goal.returns
returns g c =
    let chunks = chunks_of_rows g.M.MemoryObject.object c.args.chunks.now in
    let named : c.object.result ≡ object_in (map.get chunks c.args.tile.chunk) = c.object.ensures ∙ sym (object_of_row g.M.MemoryObject.object c.args.chunks.now c.args.tile.chunk c.index.result.now c.index.ensures) in
    let made : free_range chunks c.args.tile ≡ Some (_) = ap (λ b. cond b (Some (record { object = object_in (map.get chunks c.args.tile.chunk); start = c.args.tile.start; end = c.args.tile.end })) None) (unnot c.args.tile.free c.if-not-tile.false) in
    c.in_ok-push.ensures.items ∙ (λ i. c.args.ranges.now.items ++ listed (Some (record { object = named i; start = c.args.tile.start; end = c.args.tile.end }))) ∙ ap (λ o. c.args.ranges.now.items ++ listed o) (sym made)
