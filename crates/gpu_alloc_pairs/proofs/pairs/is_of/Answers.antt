use Rattle.std.proofs.Common.{◌≡◌, ◌^◌, ◌∙◌, sym, ap, Some}
use Rattle.std.specs.Prelude.{option_map}
use Rattle.std.proofs.lemmas.Bool.Decides.{Decides-eqb}
use Rattle.std.specs.FinMap as finite
use Rattle.gpu_alloc_base.specs.Chunks.{Chunk}
use Rattle.gpu_alloc_base.proofs.ListedRanges.{told_object}
use Rattle.gpu_alloc_base.proofs.SlabViews.{get_by_key}
use Rattle.gpu_alloc_pairs.specs.Blocks.{chunks_in}
use Rattle.gpu_alloc_pairs.specs.declared.pairs.Chunk.{Chunk as StoredChunk}
use Rattle.gpu_alloc_pairs.proofs.pairs.is_of.Given.{Over}
use Rattle.gpu_alloc_pairs.proofs.pairs.is_of.Goals as goal

-- how a stored chunk is seen
abbrev seen : (g : Over) → StoredChunk g.row.M.Denot → Chunk
seen g chunk = record { object = g.M.MemoryObject.object chunk.memory; size = 2 ^ chunk.order }

pub returns-then-has_block : goal.returns-then-has_block
returns-then-has_block g c =
    let held : finite.get (chunks_in g.M.MemoryObject.object c.args.chunks.now) c.args.pair.now.chunk ≡ Some (seen g c.index.result.now) =
    get_by_key (seen g) c.args.chunks.now c.args.pair.now.chunk ∙ ap (option_map (seen g)) c.index.ensures in
    let named = told_object (finite.get (chunks_in g.M.MemoryObject.object c.args.chunks.now) c.args.pair.now.chunk) (seen g c.index.result.now) held ∙ sym c.object.ensures in
    let test = Decides-eqb c.object.result c.args.object in (
      λ same. (c.has_block.ensures.0 c.if-has_block.true, named ∙ test.0 same),
      λ has. test.1 (sym named ∙ has.1),
    )
