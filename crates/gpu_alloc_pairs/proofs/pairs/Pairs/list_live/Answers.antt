use Rattle.std.proofs.Common.{◌<◌, ◌^◌, length, sym, ◌∙◌, arith}
use Rattle.gpu_alloc_base.specs.Chunks.{Chunk}
use Rattle.gpu_alloc_pairs.specs.Blocks.{chunks_in}
use Rattle.gpu_alloc_pairs.specs.Halves.{leaf_of}
use Rattle.gpu_alloc_pairs.specs.Seen.{seen}
use Rattle.gpu_alloc_pairs.specs.declared.pairs.Chunk.{Chunk as StoredChunk}
use Rattle.gpu_alloc_pairs.specs.declared.pair.Use.TheVariants.{Taken}
use Rattle.gpu_alloc_pairs.proofs.ListedHalves.{more_made, none_made}
use Rattle.gpu_alloc_pairs.proofs.HeldLists.{adds_leaves}
use Rattle.gpu_alloc_pairs.proofs.LiveSpans.{all_in_chunks, pairs_there}
use Rattle.gpu_alloc_pairs.proofs.pairs.Pairs.list_live.Given.{Over}
use Rattle.gpu_alloc_pairs.proofs.pairs.Pairs.list_live.Goals as goal

-- how a stored chunk is seen
abbrev shown : (g : Over) → StoredChunk g.row.M.Denot → Chunk
shown g chunk = record { object = g.M.MemoryObject.object chunk.memory; size = 2 ^ chunk.order }

pub loop-order-init : goal.loop-order-init
loop-order-init g c = none_made Taken (leaf_of (chunks_in g.M.MemoryObject.object c.self.inside.chunks)) c.args.leaves.now.items

pub list_length-requires-clause-placed : goal.list_length-requires-clause-placed
list_length-requires-clause-placed g c =
    let are = pairs_there c.self.inside.lengths.items c.loop-order.order _ c.pairs.result.now c.self.invariant.count c.loop-order-test.true c.index.ensures c.pairs.ensures in
    all_in_chunks (shown g) c.self.inside.chunks c.self.inside.lengths.items c.self.invariant c.loop-order.order c.pairs.result.now are

pub loop-order-preserved : goal.loop-order-preserved
loop-order-preserved g c =
    let in_range : c.loop-order.order < length c.self.inside.lengths.items = omega (arith, c.self.invariant.count, c.loop-order-test.true) in
    more_made Taken (leaf_of (chunks_in g.M.MemoryObject.object c.self.inside.chunks)) c.self.inside.lengths.items c.loop-order.order c.index.result.now (seen c.pairs.result.now)
    c.args.leaves.now.items c.loop-order.leaves.items c.list_length.new.leaves.items in_range (sym c.index.ensures ∙ sym c.pairs.ensures) c.loop-order.invariant c.in_ok-list_length.ensures

pub returns : goal.returns
returns g c =
    rw (← c.self.view_is) (adds_leaves (chunks_in g.M.MemoryObject.object c.self.inside.chunks) c.self.inside.lengths.items c.self.invariant c.loop-order.order
    c.args.leaves.now.items c.loop-order.leaves.items c.loop-order-test.false c.loop-order.invariant)
