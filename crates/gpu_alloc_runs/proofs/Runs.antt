-- The free tiles are exactly the free runs, and a place is where one of them has room.
use Rattle.std.proofs.Common.{◌≡◌, ◌↔◌, inl, inr, ℕ, ◌<◌, ◌≤◌, true, Option, Some, None, IsSome, option_map, refl, sym, ◌∙◌, ap, subst, arith}
use Rattle.std.proofs.lemmas.Bool.{cases_eq}
use Rattle.std.specs.Prelude.{MatchOption}
use Rattle.std.specs.FinMap as map
use Rattle.slab.specs.Slab.{Slab, get}
use Rattle.gpu_alloc_base.specs.Chunks.{Chunk}
use Rattle.gpu_alloc_base.specs.FreeRuns.{IsListPlace, IsSpaced, tail_start}
use Rattle.gpu_alloc_base.specs.declared.free_list_block.Slot.{Slot}
use Rattle.gpu_alloc_base.specs.declared.region.FreeListRegion.{FreeListRegion}
use Rattle.gpu_alloc_base.proofs.FreeRuns.{place_has_run, run_has_place}
use Rattle.gpu_alloc_base.proofs.SlabViews.{found_by_key, get_by_key}
use Rattle.gpu_alloc_runs.specs.Inside.{chunk_of_row, chunk_size_in, chunks_of_rows, fit_space_in, row_size, slot_of}
use Rattle.gpu_alloc_runs.specs.Links.{AreNodesKept}
use Rattle.gpu_alloc_runs.specs.Space.{HasPlace, IsFreeIn, size_of}
use Rattle.gpu_alloc_runs.specs.Tiles.{Covers, HasRoomAt, HasRun, IsLiveAt, tile_in, tile_region}
use Rattle.gpu_alloc_runs.specs.declared.fits.Chunk.{Chunk as Row}
use Rattle.gpu_alloc_runs.specs.declared.tile.Node.{Node}
use Rattle.gpu_alloc_runs.specs.declared.tile.Tile.{Tile}
use Rattle.gpu_alloc_runs.proofs.Live.{in_live}
use Rattle.gpu_alloc_runs.proofs.Tiles.{bit, not_both, one_tile}

module _ {M : Type 0} (object : M → ℕ) (rows : Slab (Row M)) where
  -- a held chunk's size, by its row and as contracts see it
  pub size_is : (key : ℕ) (chunk : Chunk) → map.get (chunks_of_rows object rows) key ≡ Some chunk → chunk_size_in rows key ≡ chunk.size
  size_is key chunk is =
      let row = found_by_key (chunk_of_row object) rows key chunk is in
      ap row_size row.1 ∙ ap (λ (c : Chunk). c.size) row.2

  pub bytes_held : (key : ℕ) → size_of (map.get (chunks_of_rows object rows) key) ≡ chunk_size_in rows key
  bytes_held key = ap size_of (get_by_key (chunk_of_row object) rows key) ∙ cases (get rows key)
    where
      cases : (o : Option (Row M)) → size_of (option_map (chunk_of_row object) o) ≡ row_size o
      cases None = refl
      cases (Some row) = refl

  pub held_row : (key : ℕ) → 0 < chunk_size_in rows key → (row : Row M) × (get rows key ≡ Some row)
  held_row key some = cases (get rows key) refl
    where
      cases : (o : Option (Row M)) → get rows key ≡ o → (row : Row M) × (get rows key ≡ Some row)
      cases None e = absurd (let zero = ap row_size e in omega (arith, some, zero))
      cases (Some row) e = (row, e)

  pub held_chunk : (key : ℕ) → 0 < chunk_size_in rows key → (chunk : Chunk) × (map.get (chunks_of_rows object rows) key ≡ Some chunk) × (chunk.size ≡ chunk_size_in rows key)
  held_chunk key some =
      let row = held_row key some in
      (chunk_of_row object row.0, get_by_key (chunk_of_row object) rows key ∙ ap (option_map (chunk_of_row object)) row.1, sym (ap row_size row.1))

  module _ (nodes : Slab Node) (kept : AreNodesKept (chunk_size_in rows) nodes) where
    -- a byte of a free tile is free
    pub free_byte : (x : ℕ) (a : Tile) (at : ℕ) → tile_in nodes x ≡ Some a → a.free ≡ true → a.start ≤ at → at < a.end → IsFreeIn (fit_space_in (chunks_of_rows object rows) nodes) a.chunk at
    free_byte x a at is free from to =
        let inside = kept.tiled.inside x a is in
        let held = held_chunk a.chunk (omega (arith, to, inside)) in
        record {
          held = held.0;
          is = held.1;
          inside = omega (arith, held.2, inside, to);
          unused = λ slot live same byte.
              let h = (in_live (chunks_of_rows object rows) nodes slot).0 live in
              let chunk = ap (λ (s : Slot). s.chunk) h.3 in
              let start = ap (λ (s : Slot). s.offset) h.3 in
              let long = ap (λ (s : Slot). s.size) h.3 in
              let some = kept.tiled.nonempty h.0 h.1 h.2.0 in
              let key = kept.tiled.apart x h.0 a h.1 is h.2.0 (sym (chunk ∙ same)) (omega (arith, from, byte.to, start, long, some)) (omega (arith, to, byte.from, start)) in
              not_both a h.1 (one_tile (tile_in nodes) x h.0 a h.1 is h.2.0 key) free h.2.1;
        }

    -- a free byte lies in no live tile
    free_from : (chunk at k : ℕ) (a : Tile) → IsFreeIn (fit_space_in (chunks_of_rows object rows) nodes) chunk at → IsLiveAt (tile_in nodes) k a → Covers a chunk at → ⊥
    free_from chunk at k a byte live covers =
        byte.unused (slot_of (chunks_of_rows object rows) a) ((in_live (chunks_of_rows object rows) nodes (slot_of (chunks_of_rows object rows) a)).1 (k, a, live, refl)) covers.0
        (record { from = covers.1.0; to = omega (arith, covers.1.0, covers.1.1) })

    -- The free tiles are spaced and are the free bytes.
    pub canonical : IsSpaced (IsFreeIn (fit_space_in (chunks_of_rows object rows) nodes)) (HasRun (tile_in nodes))
    canonical = record {
      nonempty = λ r has.
          let some = kept.tiled.nonempty has.0 has.1 has.2.0 in
          omega (arith, some, ap (λ (q : FreeListRegion). q.start) has.2.1.1, ap (λ (q : FreeListRegion). q.end) has.2.1.1);
      apart = λ r s has_r has_s same le ge.
          let a = has_r.1 in
          let b = has_s.1 in
          let ra = has_r.2.1.1 in
          let sb = has_s.2.1.1 in
          let chunk : a.chunk ≡ b.chunk = ap (λ (q : FreeListRegion). q.chunk) ra ∙ same ∙ sym (ap (λ (q : FreeListRegion). q.chunk) sb) in
          let a_some = kept.tiled.nonempty has_r.0 a has_r.2.0 in
          let b_some = kept.tiled.nonempty has_s.0 b has_s.2.0 in
          let le' : a.start ≤ b.end = omega (arith, le, ap (λ (q : FreeListRegion). q.start) ra, ap (λ (q : FreeListRegion). q.end) sb) in
          let ge' : b.start ≤ a.end = omega (arith, ge, ap (λ (q : FreeListRegion). q.start) sb, ap (λ (q : FreeListRegion). q.end) ra) in
          elim (cases_eq a.end b.start) [
            | inl meet ↦ absurd (kept.calm has_r.0 has_s.0 a b has_r.2.0 has_s.2.0 (record { chunk = chunk; meet = meet; left = has_r.2.1.0; right = has_s.2.1.0 }))
            | inr ne ↦ elim (cases_eq b.end a.start) [
              | inl meet ↦ absurd (kept.calm has_s.0 has_r.0 b a has_s.2.0 has_r.2.0 (record { chunk = sym chunk; meet = meet; left = has_s.2.1.0; right = has_r.2.1.0 }))
              | inr ne' ↦
                  let key = kept.tiled.apart has_r.0 has_s.0 a b has_r.2.0 has_s.2.0 chunk (omega (arith, le', ne')) (omega (arith, ge', ne)) in
                  sym ra ∙ ap tile_region (one_tile (tile_in nodes) has_r.0 has_s.0 a b has_r.2.0 has_s.2.0 key) ∙ sb
            ]
          ];
      free = λ r has at from to.
          let a = has.1 in
          let is = has.2.1.1 in
          let byte = free_byte has.0 a at has.2.0 has.2.1.0 (omega (arith, from, ap (λ (q : FreeListRegion). q.start) is)) (omega (arith, to, ap (λ (q : FreeListRegion). q.end) is)) in
          subst (λ c. IsFreeIn (fit_space_in (chunks_of_rows object rows) nodes) c at) (ap (λ (q : FreeListRegion). q.chunk) is) byte;
      covers = λ chunk at byte.
          let c = kept.tiled.covers chunk at (let size = size_is chunk byte.held byte.is in omega (arith, byte.inside, size)) in
          elim (bit c.1.free) [
            | inl is_free ↦ (tile_region c.1, (c.0, c.1, (c.2.0, (is_free, refl))), c.2.1.0, c.2.1.1.0, c.2.1.1.1)
            | inr is_live ↦ absurd (free_from chunk at c.0 c.1 byte (c.2.0, is_live) c.2.1)
          ];
    }

    -- A place is where a free tile has room.

    module _ (size alignment : ℕ) (positive : 0 < alignment) where
      pub no_place : 0 < size → ((k : ℕ) → HasRoomAt (tile_in nodes) size alignment k → ⊥) → HasPlace (fit_space_in (chunks_of_rows object rows) nodes) size alignment → ⊥
      no_place some none place =
          let run = place_has_run (IsFreeIn (fit_space_in (chunks_of_rows object rows) nodes)) (HasRun (tile_in nodes)) canonical size alignment place.0 place.1 some positive place.2 in
          let r = run.1 in
          none r.0 (
            r.1,
            (
              r.2.0,
              (
                r.2.1.0,
                (
                    let s = ap (λ (q : FreeListRegion). q.start) r.2.1.1 in
                    let e = ap (λ (q : FreeListRegion). q.end) r.2.1.1 in
                    rw (s, e) run.3),
              ),
            ),
          )

      pub in_place : (k : ℕ) (fits : HasRoomAt (tile_in nodes) size alignment k) → IsListPlace (IsFreeIn (fit_space_in (chunks_of_rows object rows) nodes)) size alignment fits.0.chunk (tail_start size alignment fits.0.end)
      in_place k fits = run_has_place (IsFreeIn (fit_space_in (chunks_of_rows object rows) nodes)) (HasRun (tile_in nodes)) canonical size alignment (tile_region fits.0) positive (k, fits.0, (fits.1.0, (fits.1.1.0, refl))) fits.1.1.1

      pub has_place : (k : ℕ) → HasRoomAt (tile_in nodes) size alignment k → HasPlace (fit_space_in (chunks_of_rows object rows) nodes) size alignment
      has_place k fits = (fits.0.chunk, tail_start size alignment fits.0.end, in_place k fits)

-- a search tells whether there is a place
pub told : {X : Type 0} (o : Option X) (P : Type 0) (B : X → Type 0) → MatchOption o (P → ⊥) B → ((x : X) → B x → P) → IsSome o ↔ P
told None P B none gives = ((λ s. absurd (cc)), (λ p. absurd (none p)))
told (Some x) P B some gives = ((λ s. gives x some), (λ p. refl))
