use Rattle.std.proofs.Common.{◌≡◌, ◌==◌, ◌↔◌, Some, IsTrue, sym, ◌∙◌}
use Rattle.std.proofs.lemmas.Bool.Decides.{Decides-eqb}
use Rattle.std.specs.FinMap as map
use Rattle.gpu_alloc_base.specs.Accounts.{HeldChunks}
use Rattle.gpu_alloc_base.specs.Chunks.{Chunk}
use Rattle.gpu_alloc_base.specs.declared.region.FreeListRegion.{FreeListRegion}
use Rattle.gpu_alloc_freelist.specs.Chunks.{IsWholeChunk}
use Rattle.gpu_alloc_freelist.proofs.freelist.chunks.Chunks.is_whole.Goals as goal

-- a region from the start on is whole where it ends with its chunk
ends_whole : (held : HeldChunks) (r : FreeListRegion) (chunk : Chunk) → r.start ≡ 0 → map.get held r.chunk ≡ Some chunk → IsTrue (chunk.size == r.end) ↔ IsWholeChunk held r
ends_whole held r chunk start is = (
  (λ t. record { start = start; chunk = chunk; is = is; end = (Decides-eqb chunk.size r.end).0 t }),
  (λ whole. (Decides-eqb chunk.size r.end).1 (same whole.chunk whole.is whole.end)),
)
  where
    same : (other : Chunk) → map.get held r.chunk ≡ Some other → other.size ≡ r.end → chunk.size ≡ r.end
    same other there end = let both = sym is ∙ there in let one : chunk ≡ other = cc in rw one end

pub returns-then-region-eq0 : goal.returns-then-region-eq0
returns-then-region-eq0 g c = ends_whole c.args.self.now.held c.args.region _ c.if-region-eq0.true c.get.ensures
