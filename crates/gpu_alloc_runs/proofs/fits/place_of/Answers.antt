use Rattle.std.proofs.Common.{arith, sym}
use Rattle.gpu_alloc_runs.proofs.Cuts.{row_there}
use Rattle.gpu_alloc_runs.proofs.Nodes.{tile_of_node}
use Rattle.gpu_alloc_runs.proofs.fits.place_of.Goals as goal

pub is_of-requires-clause-nonempty : goal.is_of-requires-clause-nonempty
is_of-requires-clause-nonempty g c = omega (arith, c.requires.kept.tiled.nonempty c.args.key c.in-Some.node.now.tile (tile_of_node c.args.tiles.now c.args.key c.in-Some.node.now (sym c.in-Some.ensures)))

pub is_of-requires-clause-held : goal.is_of-requires-clause-held
is_of-requires-clause-held g c = row_there c.args.chunks.now c.args.tiles.now c.args.key c.in-Some.node.now.tile c.requires.kept (tile_of_node c.args.tiles.now c.args.key c.in-Some.node.now (sym c.in-Some.ensures))

pub index-requires : goal.index-requires
index-requires g c = row_there c.args.chunks.now c.args.tiles.now c.args.key c.in-Some.node.now.tile c.requires.kept (tile_of_node c.args.tiles.now c.args.key c.in-Some.node.now (sym c.in-Some.ensures))

pub index-requires-2 : goal.index-requires-2
index-requires-2 g c = row_there c.args.chunks.now c.args.tiles.now _ c.index-node.result.now.tile c.requires.kept (tile_of_node c.args.tiles.now _ c.index-node.result.now c.index-node.ensures)
