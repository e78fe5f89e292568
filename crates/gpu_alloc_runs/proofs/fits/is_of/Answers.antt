use Rattle.std.proofs.Common.{◌≡◌, ◌∙◌, sym, ap, Some}
use Rattle.std.specs.Prelude.{option_map}
use Rattle.std.proofs.lemmas.Bool.Decides.{Decides-eqb}
use Rattle.std.specs.FinMap as finite
use Rattle.gpu_alloc_base.proofs.ListedRanges.{told_object}
use Rattle.gpu_alloc_base.proofs.SlabViews.{get_by_key}
use Rattle.gpu_alloc_runs.specs.Inside.{chunk_of_row, chunks_of_rows}
use Rattle.gpu_alloc_runs.proofs.fits.is_of.Goals as goal

pub returns-then-is_live_tile : goal.returns-then-is_live_tile
returns-then-is_live_tile g c =
    let object = g.M.MemoryObject.object in
    let chunks = chunks_of_rows object c.args.chunks.now in
    let held : finite.get chunks c.args.tile.chunk ≡ Some (chunk_of_row object c.index.result.now) = get_by_key (chunk_of_row object) c.args.chunks.now c.args.tile.chunk ∙ ap (option_map (chunk_of_row object)) c.index.ensures in
    let named = told_object (finite.get chunks c.args.tile.chunk) (chunk_of_row object c.index.result.now) held ∙ sym c.object.ensures in
    let test = Decides-eqb c.object.result c.args.object in (
      λ same. record { tile = c.is_live_tile.ensures.0 c.if-is_live_tile.true; of_object = named ∙ test.0 same },
      λ has. test.1 (sym named ∙ has.of_object),
    )
