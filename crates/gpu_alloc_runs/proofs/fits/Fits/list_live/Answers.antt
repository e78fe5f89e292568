use Rattle.std.proofs.Common.{◌≡◌, ◌++◌, Some, ◌∙◌, ap, arith}
use Rattle.slab.specs.Slab.{entries}
use Rattle.gpu_alloc_runs.specs.Inside.{chunks_of_rows, live_row, live_slot, made_of}
use Rattle.gpu_alloc_runs.specs.Tiles.{tile_in}
use Rattle.gpu_alloc_runs.proofs.Cuts.{row_there}
use Rattle.gpu_alloc_runs.proofs.Listed.{live_all, live_once, rows_made}
use Rattle.gpu_alloc_runs.proofs.Made.{all_made, none_made, one_made, own_here}
use Rattle.gpu_alloc_runs.proofs.Nodes.{tile_of_node}
use Rattle.gpu_alloc_runs.proofs.fits.Fits.list_live.Given.{Over}
use Rattle.gpu_alloc_runs.proofs.fits.Fits.list_live.Goals as goal

pub loop-node-init : goal.loop-node-init
loop-node-init g c = (tt, tt, none_made (live_row (chunks_of_rows g.M.MemoryObject.object c.self.inside.chunks)) c.self.inside.tiles c.args.rows.now.items _ (c.into_iter-node-iterator.ensures.into_iter_gives ∙ c.iter-node-items.ensures.rest))

-- the tile that is looked at
here : (g : Over) (c : goal.After-list_live-arg-in-loop-node-1 g) → tile_in c.self.inside.tiles c.in-Some.field-0-0 ≡ Some c.in-Some.node.now.tile
here g c =
    tile_of_node c.self.inside.tiles c.in-Some.field-0-0 c.in-Some.node.now
    (own_here (live_row (chunks_of_rows g.M.MemoryObject.object c.self.inside.chunks)) c.self.inside.tiles c.args.rows.now.items c.loop-node.rows.items _ _ c.in-Some.field-0-0 c.in-Some.node.now c.in-Some.ensures.steps c.loop-node.invariant.2)

pub list_live-requires-clause-nonempty : goal.list_live-requires-clause-nonempty
list_live-requires-clause-nonempty g c = omega (arith, c.self.invariant.stored.kept.tiled.nonempty c.in-Some.field-0-0 c.in-Some.node.now.tile (here g c))

pub list_live-requires-clause-held : goal.list_live-requires-clause-held
list_live-requires-clause-held g c = row_there c.self.inside.chunks c.self.inside.tiles c.in-Some.field-0-0 c.in-Some.node.now.tile c.self.invariant.stored.kept (here g c)

pub loop-node-preserved : goal.loop-node-preserved
loop-node-preserved g c = (tt, tt, one_made (live_row (chunks_of_rows g.M.MemoryObject.object c.self.inside.chunks)) c.self.inside.tiles c.args.rows.now.items c.loop-node.rows.items _ _ c.in-Some.field-0-0 c.in-Some.node.now c.in-Some.ensures.steps c.loop-node.invariant.2 _ c.in_ok-list_live.ensures)

pub returns : goal.returns
returns g c =
    rw (← c.self.view_is) (record {
      own = made_of (live_slot (chunks_of_rows g.M.MemoryObject.object c.self.inside.chunks)) (entries c.self.inside.tiles);
      added =
          all_made (live_row (chunks_of_rows g.M.MemoryObject.object c.self.inside.chunks)) c.self.inside.tiles c.args.rows.now.items c.loop-node.rows.items _ c.in-None.ensures.steps.0 c.loop-node.invariant.2
          ∙ ap (λ rows. c.args.rows.now.items ++ rows) (rows_made (chunks_of_rows g.M.MemoryObject.object c.self.inside.chunks) (entries c.self.inside.tiles));
      exact = live_all g.M.MemoryObject.object c.self.inside.chunks c.self.inside.tiles c.self.invariant.stored.kept;
      once = live_once g.M.MemoryObject.object c.self.inside.chunks c.self.inside.tiles c.self.invariant.stored.kept;
    })
