use Rattle.std.proofs.Common.{◌≡◌, ◌^◌, Some, ◌∙◌, sym}
use Rattle.gpu_alloc_base.specs.Chunks.{Chunk}
use Rattle.gpu_alloc_pairs.specs.Blocks.{chunks_in}
use Rattle.gpu_alloc_pairs.specs.Space.{IsLiveSpan}
use Rattle.gpu_alloc_pairs.specs.Store.{buddy_space_in}
use Rattle.gpu_alloc_pairs.specs.declared.pairs.Chunk.{Chunk as StoredChunk}
use Rattle.gpu_alloc_pairs.proofs.LiveSpans.{all_in_chunks, exact_leaf, nowhere_live, of_no_length, pairs_there, under_live}
use Rattle.gpu_alloc_pairs.proofs.pairs.Pairs.find.Given.{Over}
use Rattle.gpu_alloc_pairs.proofs.pairs.Pairs.find.Goals as goal

-- how a stored chunk is seen
abbrev shown : (g : Over) → StoredChunk g.row.M.Denot → Chunk
shown g chunk = record { object = g.M.MemoryObject.object chunk.memory; size = 2 ^ chunk.order }

pub returns-in_default-clause-found : goal.returns-in_default-clause-found
returns-in_default-clause-found g c =
    rw (← c.self.view_is) (of_no_length (chunks_in g.M.MemoryObject.object c.self.inside.chunks) c.self.inside.lengths.items c.self.invariant c.args.object c.args.offset c.args.size c.in_default.ensures)

pub returns-in_default-clause-exact : goal.returns-in_default-clause-exact
returns-in_default-clause-exact g c =
    let none = of_no_length (chunks_in g.M.MemoryObject.object c.self.inside.chunks) c.self.inside.lengths.items c.self.invariant c.args.object c.args.offset c.args.size c.in_default.ensures in
    rw (← c.self.view_is) (exact_leaf _ c.args.object c.args.offset c.args.size _ c.self.invariant.sound none)

pub key_of-requires-clause-placed : goal.key_of-requires-clause-placed
key_of-requires-clause-placed g c =
    let are = pairs_there c.self.inside.lengths.items c.in-Some.order _ c.pairs-pairs.result.now c.self.invariant.count c.in-Some.ensures.1 c.index.ensures c.pairs-pairs.ensures in
    all_in_chunks (shown g) c.self.inside.chunks c.self.inside.lengths.items c.self.invariant c.in-Some.order c.pairs-pairs.result.now are

pub returns-in_default-key_of-clause-found : goal.returns-in_default-key_of-clause-found
returns-in_default-key_of-clause-found g c =
    let are = pairs_there c.self.inside.lengths.items c.in-Some.order _ c.pairs-pairs.result.now c.self.invariant.count c.in-Some.ensures.1 c.index.ensures c.pairs-pairs.ensures in
    rw (← c.self.view_is) (nowhere_live (chunks_in g.M.MemoryObject.object c.self.inside.chunks) c.self.inside.lengths.items c.self.invariant c.in-Some.order c.pairs-pairs.result.now are
    c.args.object c.args.offset c.args.size c.in-Some.ensures.0 c.in_default-key_of.ensures)

pub returns-in_default-key_of-clause-exact : goal.returns-in_default-key_of-clause-exact
returns-in_default-key_of-clause-exact g c =
    let are = pairs_there c.self.inside.lengths.items c.in-Some.order _ c.pairs-pairs.result.now c.self.invariant.count c.in-Some.ensures.1 c.index.ensures c.pairs-pairs.ensures in
    let none = nowhere_live (chunks_in g.M.MemoryObject.object c.self.inside.chunks) c.self.inside.lengths.items c.self.invariant c.in-Some.order c.pairs-pairs.result.now are
    c.args.object c.args.offset c.args.size c.in-Some.ensures.0 c.in_default-key_of.ensures in
    rw (← c.self.view_is) (exact_leaf _ c.args.object c.args.offset c.args.size _ c.self.invariant.sound none)

-- the block that stands under the key that was found
found : (g : Over) (c : goal.After-index-2 g) → IsLiveSpan (buddy_space_in (chunks_in g.M.MemoryObject.object c.self.inside.chunks) c.self.inside.lengths.items) c.args.object c.args.offset c.args.size
    (record { object = c.args.object; chunk = c.index-2.result.now.chunk; offset = c.args.offset; size = c.args.size; index = c.in-Some-key_of.index })
found g c =
    let are = pairs_there c.self.inside.lengths.items c.in-Some.order _ c.pairs-pairs.result.now c.self.invariant.count c.in-Some.ensures.1 c.index.ensures c.pairs-pairs.ensures in
    let under = c.in-Some-key_of.ensures in
    let both : Some c.index-2.result.now ≡ Some under.0 = sym c.index-2.ensures ∙ under.1 in
    let same : c.index-2.result.now ≡ under.0 = cc in
    under_live (chunks_in g.M.MemoryObject.object c.self.inside.chunks) c.self.inside.lengths.items c.self.invariant c.in-Some.order c.pairs-pairs.result.now are
    c.args.object c.args.offset c.args.size c.in-Some-key_of.index c.index-2.result.now c.in-Some.ensures.0 c.index-2.ensures
    (rw same under.2)

pub returns-clause-found : goal.returns-clause-found
returns-clause-found g c = rw (← c.self.view_is) (found g c)

pub returns-clause-exact : goal.returns-clause-exact
returns-clause-exact g c = rw (← c.self.view_is) (exact_leaf _ c.args.object c.args.offset c.args.size _ c.self.invariant.sound (found g c))
