use Rattle.std.proofs.Common.{◌^◌, refl, ◌∙◌, ap}
use Rattle.std.specs.Prelude.{option_map}
use Rattle.gpu_alloc_base.specs.Chunks.{Chunk}
use Rattle.gpu_alloc_base.proofs.SlabViews.{get_by_key}
use Rattle.gpu_alloc_pairs.specs.Blocks.{chunks_in}
use Rattle.gpu_alloc_pairs.specs.Store.{buddy_space_in}
use Rattle.gpu_alloc_pairs.specs.declared.pairs.Chunk.{Chunk as StoredChunk}
use Rattle.gpu_alloc_pairs.proofs.HeldLists.{short_order}
use Rattle.gpu_alloc_pairs.proofs.pairs.Pairs.chunks.Given.{Over}
use Rattle.gpu_alloc_pairs.proofs.pairs.Pairs.chunks.Goals as goal

-- how a stored chunk is seen
abbrev shown : (g : Over) → StoredChunk g.row.M.Denot → Chunk
shown g chunk = record { object = g.M.MemoryObject.object chunk.memory; size = 2 ^ chunk.order }

pub returns : goal.returns
returns g c =
    let chunks = c.self.inside.chunks in
    rw (← c.self.view_is) (record {
      rows = chunks;
      are = c.iter.ensures.rest;
      exact = refl;
      short = λ key chunk at. short_order (buddy_space_in (chunks_in g.M.MemoryObject.object chunks) c.self.inside.lengths.items) key chunk.order (shown g chunk) c.self.invariant.sound
          (get_by_key (shown g) chunks key ∙ ap (option_map (shown g)) at) refl;
    })
