use Rattle.std.proofs.Common.{◌≡◌, ◌+◌, ◌^◌, Some, refl, sym, ◌∙◌, ap, arith}
use Rattle.std.specs.Prelude.{option_map}
use Rattle.std.specs.FinMap as map
use Rattle.gpu_alloc_base.specs.Chunks.{Chunk}
use Rattle.gpu_alloc_base.specs.SlabViews.{by_key}
use Rattle.gpu_alloc_pairs.specs.declared.pairs.Chunk.{Chunk as HeldChunk}
use Rattle.gpu_alloc_base.proofs.ListedRanges.{some_value, told_object}
use Rattle.gpu_alloc_base.proofs.SlabViews.{found_by_key, get_by_key}
use Rattle.gpu_alloc_pairs.proofs.pairs.Pairs.range_of.Given.{Over}
use Rattle.gpu_alloc_pairs.proofs.pairs.Pairs.range_of.Goals as goal

-- how a held chunk is seen
abbrev seen : (g : Over) → HeldChunk g.row.M.Denot → Chunk
seen g chunk = record { object = g.M.MemoryObject.object chunk.memory; size = 2 ^ chunk.order }

pub index-requires : goal.index-requires
index-requires g c =
    let is = rw (← c.self.view_is) at c.requires.held in
    let there = some_value _ is in
    let row = found_by_key (seen g) c.self.inside.chunks c.args.piece.chunk there.0 there.1 in
    rw (row.1) refl

pub bytes-requires : goal.bytes-requires
bytes-requires g c = omega (arith, c.requires.bounded.0)

pub returns : goal.returns
returns g c =
    let held : map.get (by_key (seen g) c.self.inside.chunks) c.args.piece.chunk ≡ Some (seen g c.index.result.now) =
    get_by_key (seen g) c.self.inside.chunks c.args.piece.chunk ∙ ap (option_map (seen g)) c.index.ensures in
    let told = told_object (map.get (by_key (seen g) c.self.inside.chunks) c.args.piece.chunk) (seen g c.index.result.now) held in
    let name = c.object.ensures ∙ sym told in
    rw (← c.self.view_is) (λ k. record { object = name k; start = c.args.piece.start; end = c.args.piece.start + c.bytes.ensures k })
