use Rattle.std.proofs.Common.{◌≡◌, ◌^◌, ◌++◌, Some, sym, ◌∙◌, ap}
use Rattle.std.specs.Prelude.{option_map}
use Rattle.std.specs.FinMap as finite
use Rattle.gpu_alloc_base.specs.Chunks.{Chunk}
use Rattle.gpu_alloc_base.specs.declared.buddy_block.Leaf.{Leaf}
use Rattle.gpu_alloc_base.proofs.ListedRanges.{told_object}
use Rattle.gpu_alloc_base.proofs.SlabViews.{get_by_key}
use Rattle.gpu_alloc_pairs.specs.Blocks.{chunks_in}
use Rattle.gpu_alloc_pairs.specs.Entry.{entry_of}
use Rattle.gpu_alloc_pairs.specs.Halves.{half_at, leaf_of}
use Rattle.gpu_alloc_pairs.specs.declared.pairs.Chunk.{Chunk as StoredChunk}
use Rattle.gpu_alloc_pairs.proofs.HeldLists.{half_listed}
use Rattle.gpu_alloc_pairs.proofs.pairs.list_half.Given.{Over}
use Rattle.gpu_alloc_pairs.proofs.pairs.list_half.Goals as goal

-- how a stored chunk is seen
abbrev shown : (g : Over) → StoredChunk g.row.M.Denot → Chunk
shown g chunk = record { object = g.M.MemoryObject.object chunk.memory; size = 2 ^ chunk.order }

pub returns-in_ok-push : goal.returns-in_ok-push
returns-in_ok-push g c =
    let chunks = chunks_in g.M.MemoryObject.object c.args.chunks.now in
    let held : finite.get chunks c.args.pair.now.chunk ≡ Some (shown g c.index.result.now) =
    get_by_key (shown g) c.args.chunks.now c.args.pair.now.chunk ∙ ap (option_map (shown g)) c.index.ensures in
    let named = told_object (finite.get chunks c.args.pair.now.chunk) (shown g c.index.result.now) held ∙ sym c.object.ensures in
    let leaf : Leaf = record { object = c.object.result; chunk = c.args.pair.now.chunk; offset = c.start_of.result; size = c.bytes.result; index = c.args.key } in
    let is : leaf_of chunks (half_at c.args.order c.args.key (entry_of c.args.pair.now) c.args.side) ≡ leaf =
    λ j. record { object = named j; chunk = c.args.pair.now.chunk; offset = sym c.start_of.ensures j; size = sym c.bytes.ensures j; index = c.args.key } in
    c.in_ok-push.ensures.items
    ∙ ap (λ l. c.args.leaves.now.items ++ l) (sym (half_listed chunks c.args.order c.args.key (entry_of c.args.pair.now) c.args.side leaf (sym c.in-Taken.ensures) is))
