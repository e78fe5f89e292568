use Rattle.std.proofs.Common.{◌≡◌, Some, [], Contains, ◌∙◌, sym, subst}
use Rattle.std.specs.List.{IsDistinct}
use Rattle.gpu_alloc_base.specs.RangeOrder.{same_start}
use Rattle.gpu_alloc_runs.specs.Inside.{chunks_of_rows, free_range}
use Rattle.gpu_alloc_runs.specs.Tiles.{tile_in}
use Rattle.gpu_alloc_runs.proofs.Cuts.{row_there}
use Rattle.gpu_alloc_runs.proofs.Listed.{free_all, free_once}
use Rattle.gpu_alloc_runs.proofs.Made.{AreMade, all_made, none_made, one_made, own_here}
use Rattle.gpu_alloc_runs.proofs.Nodes.{tile_of_node}
use Rattle.gpu_alloc_runs.proofs.fits.Fits.free_ranges.Given.{Over}
use Rattle.gpu_alloc_runs.proofs.fits.Fits.free_ranges.Goals as goal

pub loop-node-init : goal.loop-node-init
loop-node-init g c = (tt, tt, subst (λ xs. AreMade (free_range (chunks_of_rows g.M.MemoryObject.object c.self.inside.chunks)) c.self.inside.tiles [] xs c.into_iter-node-iterator.result) (sym c.new-ranges.ensures.items) (none_made (free_range (chunks_of_rows g.M.MemoryObject.object c.self.inside.chunks)) c.self.inside.tiles [] _ (c.into_iter-node-iterator.ensures.into_iter_gives ∙ c.iter-node-items.ensures.rest)))

-- the tile that is looked at
here : (g : Over) (c : goal.After-ranges-1 g) → tile_in c.self.inside.tiles c.in-Some.field-0-0 ≡ Some c.in-Some.node.now.tile
here g c =
    tile_of_node c.self.inside.tiles c.in-Some.field-0-0 c.in-Some.node.now
    (own_here (free_range (chunks_of_rows g.M.MemoryObject.object c.self.inside.chunks)) c.self.inside.tiles [] c.loop-node.ranges.items _ _ c.in-Some.field-0-0 c.in-Some.node.now c.in-Some.ensures.steps c.loop-node.invariant.2)

pub list_free-requires : goal.list_free-requires
list_free-requires g c = record { held = row_there c.self.inside.chunks c.self.inside.tiles c.in-Some.field-0-0 c.in-Some.node.now.tile c.self.invariant.stored.kept (here g c) }

pub loop-node-preserved : goal.loop-node-preserved
loop-node-preserved g c = (tt, tt, one_made (free_range (chunks_of_rows g.M.MemoryObject.object c.self.inside.chunks)) c.self.inside.tiles [] c.loop-node.ranges.items _ _ c.in-Some.field-0-0 c.in-Some.node.now c.in-Some.ensures.steps c.loop-node.invariant.2 _ c.in_ok-list_free.ensures)

pub put_in_order-requires : goal.put_in_order-requires
put_in_order-requires g c =
    subst (IsDistinct same_start) (sym (all_made (free_range (chunks_of_rows g.M.MemoryObject.object c.self.inside.chunks)) c.self.inside.tiles [] c.loop-node.ranges.items _ c.in-None.ensures.steps.0 c.loop-node.invariant.2))
    (free_once g.M.MemoryObject.object c.self.inside.chunks c.self.inside.tiles c.self.invariant.stored.kept c.self.invariant.stored.one_object)

pub returns-clause-runs : goal.returns-clause-runs
returns-clause-runs g c r =
    let is = all_made (free_range (chunks_of_rows g.M.MemoryObject.object c.self.inside.chunks)) c.self.inside.tiles [] c.loop-node.ranges.items _ c.in-None.ensures.steps.0 c.loop-node.invariant.2 in
    let exact = free_all g.M.MemoryObject.object c.self.inside.chunks c.self.inside.tiles c.self.invariant.stored.kept r in
    let same = c.put_in_order.ensures.same r in
    rw (← c.self.view_is) (
      (λ has. exact.0 (subst (λ xs. Contains xs r) is (same.0 has))),
      (λ run. same.1 (subst (λ xs. Contains xs r) (sym is) (exact.1 run))),
    )
