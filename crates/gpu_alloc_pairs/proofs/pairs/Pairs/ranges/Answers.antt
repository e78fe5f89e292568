use Rattle.std.proofs.Common.{◌^◌, ◌∙◌}
use Rattle.gpu_alloc_base.specs.Chunks.{Chunk}
use Rattle.gpu_alloc_base.specs.SlabViews.{by_key}
use Rattle.gpu_alloc_base.specs.declared.piece.Piece.{Piece}
use Rattle.gpu_alloc_pairs.specs.declared.pairs.Chunk.{Chunk as StoredChunk}
use Rattle.gpu_alloc_pairs.proofs.Ranges.{all_bounded, in_pieces, piece_held, piece_bounded}
use Rattle.gpu_alloc_pairs.proofs.pairs.Pairs.ranges.Given.{Over}
use Rattle.gpu_alloc_pairs.proofs.pairs.Pairs.ranges.Goals as goal

-- how a stored chunk is seen
abbrev seen : (g : Over) → StoredChunk g.row.M.Denot → Chunk
seen g chunk = record { object = g.M.MemoryObject.object chunk.memory; size = 2 ^ chunk.order }

-- no piece
abbrev none : Piece
none = record { chunk = 0; start = 0; order = 0 }

pub free_pieces-requires-clause-bounded : goal.free_pieces-requires-clause-bounded
free_pieces-requires-clause-bounded g c = all_bounded (by_key (seen g) c.self.inside.chunks) c.self.inside.lengths.items c.self.invariant

pub range_of-requires-clause-held : goal.range_of-requires-clause-held
range_of-requires-clause-held g c =
    let has = in_pieces (by_key (seen g) c.self.inside.chunks) c.self.inside.lengths.items c.self.invariant c.as_slice-piece-items.result.now c.loop-piece.piece-index none
    (c.as_slice-piece-items.ensures.value ∙ c.in_ok-pieces.ensures) c.loop-piece-test.true in
    rw (← c.self.view_is) (piece_held (by_key (seen g) c.self.inside.chunks) c.self.inside.lengths.items c.self.invariant _ has)

pub range_of-requires-clause-bounded : goal.range_of-requires-clause-bounded
range_of-requires-clause-bounded g c =
    let has = in_pieces (by_key (seen g) c.self.inside.chunks) c.self.inside.lengths.items c.self.invariant c.as_slice-piece-items.result.now c.loop-piece.piece-index none
    (c.as_slice-piece-items.ensures.value ∙ c.in_ok-pieces.ensures) c.loop-piece-test.true in
    piece_bounded (by_key (seen g) c.self.inside.chunks) c.self.inside.lengths.items c.self.invariant _ has
