use Rattle.std.proofs.Common.{◌≡◌, ◌∙◌, Some, arith}
use Rattle.gpu_alloc_runs.specs.Inside.{IsBlockTile, chunks_of_rows}
use Rattle.gpu_alloc_runs.specs.Tiles.{tile_in}
use Rattle.gpu_alloc_runs.proofs.Cuts.{row_there}
use Rattle.gpu_alloc_runs.proofs.Nodes.{tile_of_node}
use Rattle.gpu_alloc_runs.proofs.Searches.{at_first, one_less, is_found, own_node}
use Rattle.gpu_alloc_runs.proofs.fits.search.Given.{Over}
use Rattle.gpu_alloc_runs.proofs.fits.search.Goals as goal

pub loop-key-init : goal.loop-key-init
loop-key-init g c = (tt, tt, at_first _ _ _ (c.into_iter-key-iterator.ensures.into_iter_gives ∙ c.iter-key-items.ensures.rest))

-- the tile that is looked at is one of the slab
here : (g : Over) (c : goal.After-is_of-arg-1 g) → tile_in c.args.tiles.now c.in-Some.key ≡ Some c.in-Some.node.now.tile
here g c =
    tile_of_node c.args.tiles.now c.in-Some.key c.in-Some.node.now
    (own_node c.args.tiles.now (IsBlockTile (chunks_of_rows g.M.MemoryObject.object c.args.chunks.now) c.args.object c.args.offset c.args.size) _ _ c.in-Some.key c.in-Some.node.now c.in-Some.ensures.steps c.loop-key.invariant.2)

pub is_of-requires-clause-nonempty : goal.is_of-requires-clause-nonempty
is_of-requires-clause-nonempty g c = omega (arith, c.requires.kept.tiled.nonempty c.in-Some.key c.in-Some.node.now.tile (here g c))

pub is_of-requires-clause-held : goal.is_of-requires-clause-held
is_of-requires-clause-held g c = row_there c.args.chunks.now c.args.tiles.now c.in-Some.key c.in-Some.node.now.tile c.requires.kept (here g c)

pub returns-then-is_of : goal.returns-then-is_of
returns-then-is_of g c = is_found _ _ _ _ _ _ c.in-Some.ensures.steps c.loop-key.invariant.2 (c.is_of.ensures.0 c.if-is_of.true)

pub loop-key-preserved : goal.loop-key-preserved
loop-key-preserved g c =
    (tt, tt, one_less _ _ _ _ _ _ c.in-Some.ensures.steps c.loop-key.invariant.2 (λ p. let is = c.is_of.ensures.1 p in let not = c.if-is_of.false in cc))
