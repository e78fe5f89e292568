-- The wholly free chunk stays the last of its class.
use Rattle.std.proofs.Common.{◌≡◌, ◌≢◌, ℕ, true, Some, None, refl, sym, ◌∙◌, ap, arith}
use Rattle.slab.specs.Slab.{Slab}
use Rattle.gpu_alloc_runs.specs.Filed.{AreWholeLast, KeepsEnds, down_in}
use Rattle.gpu_alloc_runs.specs.Inside.{IsStoredInTiles, chunk_size_in, chunks_of_rows, fit_space_in}
use Rattle.gpu_alloc_runs.specs.Links.{AreNodesKept}
use Rattle.gpu_alloc_runs.specs.Space.{IsWhollyFree}
use Rattle.gpu_alloc_runs.specs.Tiles.{IsLiveAt, KeepsElsewhere, tile_in}
use Rattle.gpu_alloc_runs.specs.declared.fits.Chunk.{Chunk as Row}
use Rattle.gpu_alloc_runs.specs.declared.tile.Node.{Node}
use Rattle.gpu_alloc_runs.specs.declared.tile.TheConstants.{NONE}
use Rattle.gpu_alloc_runs.specs.declared.tile.Tile.{Tile}
use Rattle.gpu_alloc_runs.proofs.Stored.{whole_is_free}
use Rattle.gpu_alloc_runs.proofs.Tiles.{one_tile, whole_unused}

-- The tiles of one chunk change.

module _ (size size' : ℕ → ℕ) (n0 n1 : Slab Node) (chunk : ℕ) (same : (c : ℕ) → c ≢ chunk → size' c ≡ size c) (kept : AreNodesKept size n0) (kept' : AreNodesKept size' n1) (elsewhere : KeepsElsewhere chunk (tile_in n0) (tile_in n1))
    (ends : KeepsEnds chunk n0 n1) (last : AreWholeLast size n0) where
  -- a tile that is all of another one was there
  was_whole : (k : ℕ) (a : Tile) → tile_in n1 k ≡ Some a → a.start ≡ 0 → a.end ≡ size' a.chunk → a.chunk ≢ chunk → tile_in n0 k ≡ Some a
  was_whole k a at start end other =
      let some = kept'.tiled.nonempty k a at in
      let size_is = same a.chunk other in
      let c = kept.tiled.covers a.chunk 0 (omega (arith, some, end, size_is)) in
      let now = elsewhere c.0 c.1 c.2.0 (λ here. other (sym c.2.1.0 ∙ here)) in
      let key = kept'.tiled.apart c.0 k c.1 a now at c.2.1.0 (omega (arith, c.2.1.1.0, some)) (omega (arith, start, c.2.1.1.1)) in
      ap (tile_in n0) (sym key) ∙ c.2.0 ∙ ap Some (one_tile (tile_in n1) c.0 k c.1 a now at key)

  pub stays_last : ((k : ℕ) (a : Tile) → tile_in n1 k ≡ Some a → a.free ≡ true → a.start ≡ 0 → a.end ≡ size' a.chunk → a.chunk ≢ chunk) → AreWholeLast size' n1
  stays_last others k a at free start end =
      let other = others k a at free start end in
      let was = was_whole k a at start end other in
      ends k a was other (last k a was free start (end ∙ same a.chunk other))

  -- a block in the chunk is live
  pub used_last : (x : ℕ) (b : Tile) → IsLiveAt (tile_in n1) x b → b.chunk ≡ chunk → AreWholeLast size' n1
  used_last x b live of = stays_last (λ k a at free start end here. whole_unused size' (tile_in n1) k a kept'.tiled at free start end x b live (of ∙ sym here))

-- At most one is wholly free.

module _ {M : Type 0} (object : M → ℕ) (rows : Slab (Row M)) (nodes : Slab Node) where
  wholly : AreNodesKept (chunk_size_in rows) nodes → (k : ℕ) (a : Tile) → tile_in nodes k ≡ Some a → a.free ≡ true → a.start ≡ 0 → a.end ≡ chunk_size_in rows a.chunk → IsWhollyFree (fit_space_in (chunks_of_rows object rows) nodes) a.chunk
  wholly kept k a at free start end = whole_is_free object rows nodes kept k a.chunk (record { tile = a; at = at; free = free; start = start; end = end; chunk_is = refl })

  pub none_last : IsStoredInTiles object rows nodes None → AreWholeLast (chunk_size_in rows) nodes
  none_last stored k a at free start end = absurd (stored.spare_is a.chunk (wholly stored.kept k a at free start end))

  pub spare_last : (x : ℕ) → IsStoredInTiles object rows nodes (Some x) → down_in nodes x ≡ NONE → AreWholeLast (chunk_size_in rows) nodes
  spare_last x stored down k a at free start end =
      let w = stored.spare_is.whole in
      let here = stored.spare_is.only a.chunk (wholly stored.kept k a at free start end) in
      let some = stored.kept.tiled.nonempty x w.tile w.at in
      let size_is = ap (chunk_size_in rows) here in
      let key = stored.kept.tiled.apart k x a w.tile at w.at (here ∙ sym w.chunk_is) (omega (arith, start, some)) (omega (arith, w.start, w.end, some, end, size_is)) in
      ap (down_in nodes) key ∙ down
