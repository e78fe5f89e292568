-- A block that comes back, found under a key that confirms it.
use Rattle.std.proofs.Common.{◌≡◌, ℕ, Option, Some, None, option_map, refl, sym, ◌∙◌, ap, subst, arith}
use Rattle.std.specs.FinMap as map
use Rattle.slab.specs.Slab.{Slab, Updates, get}
use Rattle.gpu_alloc_base.specs.Chunks.{Chunk}
use Rattle.gpu_alloc_base.specs.declared.free_list_block.Slot.{Slot}
use Rattle.gpu_alloc_base.proofs.SlabViews.{get_by_key}
use Rattle.gpu_alloc_runs.specs.Classes.{filed_but}
use Rattle.gpu_alloc_runs.specs.Filed.{AreFreeFiledBut, AreWholeLast, KeepsEnds, KeepsLasts, filed_in}
use Rattle.gpu_alloc_runs.specs.Inside.{IsBlockPlace, IsSpareTile, IsStoredInTiles, chunk_of_row, chunk_size_in, chunks_of_rows, fit_space_in, row_size, slot_of}
use Rattle.gpu_alloc_runs.specs.Links.{AreNodesKept, KeepsNodes}
use Rattle.gpu_alloc_runs.specs.Space.{FitSpace, IsLiveFitSpan, IsSpare, without_chunk, without_slot}
use Rattle.gpu_alloc_runs.specs.Tiles.{IsFreeTileOf, IsLiveAt, KeepsElsewhere, KeepsLive, PutsTileBack, tile_in}
use Rattle.gpu_alloc_runs.specs.declared.classes.Classes.{Classes}
use Rattle.gpu_alloc_runs.specs.declared.fits.Chunk.{Chunk as Row}
use Rattle.gpu_alloc_runs.specs.declared.tile.Node.{Node}
use Rattle.gpu_alloc_runs.specs.declared.tile.Place.{Place}
use Rattle.gpu_alloc_runs.specs.declared.tile.Tile.{Tile}
use Rattle.gpu_alloc_runs.proofs.Ends.{stays_last}
use Rattle.gpu_alloc_runs.proofs.Filing.{but_same}
use Rattle.gpu_alloc_runs.proofs.Held.{gone_space, gone_stored, other_whole, was_wholly}
use Rattle.gpu_alloc_runs.proofs.Nodes.{keeps_kept, tile_of_node, with_tiles}
use Rattle.gpu_alloc_runs.proofs.Stored.{first_stays, first_stored, goes_as, goes_only, goes_other, goes_spare, other_differs, partly_stays, partly_stored, placed_is, stays_as, the_other}
use Rattle.gpu_alloc_runs.proofs.Tiles.{one_tile}

-- what comes of a return that lets no chunk go
pub record IsReturned {M : Type 0} (object : M → ℕ) (rows : Slab (Row M)) (nodes : Slab Node) (spare : Option ℕ) (old : FitSpace) (b : Slot) : Type 0 where
  pub stored : IsStoredInTiles object rows nodes spare
  pub kept : IsSpare (without_slot old b) b.chunk → ⊥
  pub space : fit_space_in (chunks_of_rows object rows) nodes ≡ without_slot old b

-- and of one with which its chunk is removed
pub record IsReturnedWith {M : Type 0} (object : M → ℕ) (rows : Slab (Row M)) (nodes : Slab Node) (spare : Option ℕ) (old : FitSpace) (b : Slot) (chunk : Chunk) : Type 0 where
  pub stored : IsStoredInTiles object rows nodes spare
  pub goes : IsSpare (without_slot old b) b.chunk
  pub held : map.get old.chunks b.chunk ≡ Some chunk
  pub space : fit_space_in (chunks_of_rows object rows) nodes ≡ without_chunk (without_slot old b) b.chunk

-- A tile is freed and joined, and then its list changes: n0, n1, n2.
module _ {M : Type 0} (object : M → ℕ) (rows : Slab (Row M)) (n0 n1 n2 : Slab Node) (spare : Option ℕ) (stored : IsStoredInTiles object rows n0 spare) (old : FitSpace) (same : fit_space_in (chunks_of_rows object rows) n0 ≡ old)
    (name given offset size : ℕ) (named : name ≡ given) (p : Place) (is : IsBlockPlace object rows n0 name offset size p) (y : ℕ) (joint : Tile) (back_1 : PutsTileBack (tile_in n0) (tile_in n1) p.key) (free_1 : IsFreeTileOf p.node.tile.chunk (tile_in n1) y joint)
    (elsewhere_1 : KeepsElsewhere p.node.tile.chunk (tile_in n0) (tile_in n1)) (kept_1 : AreNodesKept (chunk_size_in rows) n1) (keeps : KeepsNodes n1 n2) where
  abbrev tile : Tile
  tile = p.node.tile

  live : IsLiveAt (tile_in n0) p.key tile
  live = (tile_of_node n0 p.key p.node is.at, is.block.tile.live)

  back : PutsTileBack (tile_in n0) (tile_in n2) p.key
  back = with_tiles n1 n2 keeps (λ T. PutsTileBack (tile_in n0) T p.key) back_1

  pub free : IsFreeTileOf tile.chunk (tile_in n2) y joint
  free = with_tiles n1 n2 keeps (λ T. IsFreeTileOf tile.chunk T y joint) free_1

  elsewhere : KeepsElsewhere tile.chunk (tile_in n0) (tile_in n2)
  elsewhere = with_tiles n1 n2 keeps (KeepsElsewhere tile.chunk (tile_in n0)) elsewhere_1

  kept : AreNodesKept (chunk_size_in rows) n2
  kept = keeps_kept n1 n2 keeps (chunk_size_in rows) kept_1

  block : (b : Slot) → IsLiveFitSpan old given offset size b → slot_of (chunks_of_rows object rows) tile ≡ b
  block b span = placed_is object rows n0 spare stored old same name given offset size named p is b span

  -- the last ones of other chunks stay so
  ends_stay : KeepsEnds tile.chunk n0 n1 → (classes : Classes) (was : Option ℕ) → AreFreeFiledBut n1 classes y was → KeepsLasts n1 classes n2 y was → KeepsEnds tile.chunk n0 n2
  ends_stay ends classes was filed lasts k a at other none =
      lasts (filed_but (filed_in n1) y was) filed (but_same (filed_in n1) y y was refl) k
      (λ e. other (ap (λ (t : Tile). t.chunk) (one_tile (tile_in n1) k y a joint (elsewhere_1 k a at other) free_1.at e) ∙ free_1.chunk_is)) (ends k a at other none)

  -- other blocks of its chunk are live
  pub returned_partly : ((joint.start ≡ 0) × (joint.end ≡ p.whole) → ⊥) → (b : Slot) → IsLiveFitSpan old given offset size b → IsReturned object rows n2 spare old b
  returned_partly partly b span =
      let not_whole : (joint.start ≡ 0) × (joint.end ≡ chunk_size_in rows tile.chunk) → ⊥ = λ h. partly (h.0, h.1 ∙ is.whole) in
      let s = stays_as object rows n0 n2 spare stored p.key y tile joint live back free elsewhere kept old b same (block b span) (partly_stays object rows n0 n2 spare stored p.key y tile joint live back free elsewhere kept not_whole) in
      record { stored = partly_stored object rows n0 n2 spare stored p.key y tile joint live back free elsewhere kept not_whole; kept = s.0; space = s.1 }

  pub partly_last : ((joint.start ≡ 0) × (joint.end ≡ p.whole) → ⊥) → KeepsEnds tile.chunk n0 n1 → (classes : Classes) (was : Option ℕ) → AreFreeFiledBut n1 classes y was → KeepsLasts n1 classes n2 y was → AreWholeLast (chunk_size_in rows) n0 → AreWholeLast (chunk_size_in rows) n2
  partly_last partly ends classes was filed lasts last =
      stays_last (chunk_size_in rows) (chunk_size_in rows) n0 n2 tile.chunk (λ c ne. refl) stored.kept kept elsewhere (ends_stay ends classes was filed lasts) last
      (λ k a at is_free start end here.
      let some = kept.tiled.nonempty y joint free.at in
      let inside = kept.tiled.inside y joint free.at in
      let same_chunk : a.chunk ≡ joint.chunk = here ∙ sym free.chunk_is in
      let size_is = ap (chunk_size_in rows) same_chunk in
      let key = kept.tiled.apart k y a joint at free.at same_chunk (omega (arith, start, some)) (omega (arith, some, inside, end, size_is)) in
      let e = one_tile (tile_in n2) k y a joint at free.at key in
      partly (sym (ap (λ (t : Tile). t.start) e) ∙ start, sym (ap (λ (t : Tile). t.end) e) ∙ end ∙ ap (chunk_size_in rows) here ∙ is.whole))

  module _ (start : joint.start ≡ 0) (end : joint.end ≡ p.whole) where
    end_is : joint.end ≡ chunk_size_in rows tile.chunk
    end_is = end ∙ sym is.whole

    -- it is the first wholly free chunk
    pub returned_first : spare ≡ None → (b : Slot) → IsLiveFitSpan old given offset size b → IsReturned object rows n2 (Some y) old b
    returned_first none b span =
        let s = stays_as object rows n0 n2 spare stored p.key y tile joint live back free elsewhere kept old b same (block b span) (first_stays object rows n0 n2 spare stored p.key y tile joint live back free elsewhere kept start end_is none) in
        record { stored = first_stored object rows n0 n2 spare stored p.key y tile joint live back free elsewhere kept start end_is none; kept = s.0; space = s.1 }

    -- it is another one, and is removed
    module _ (row : Row M) (row_at : get rows joint.chunk ≡ Some row) (z : ℕ) (some : spare ≡ Some z) (rows' : Slab (Row M)) (n3 : Slab Node) (goes : Updates rows rows' joint.chunk None) (lives : KeepsLive (tile_in n2) (tile_in n3)) (left : KeepsElsewhere joint.chunk (tile_in n2) (tile_in n3))
        (kept_2 : AreNodesKept (chunk_size_in rows') n3) where
      left_spare : IsSpareTile (fit_space_in (chunks_of_rows object rows') n3) (chunk_size_in rows') (tile_in n3) spare
      left_spare =
          let other = the_other object rows n0 n2 spare stored p.key y tile joint live back free elsewhere kept start end_is z some in
          subst (IsSpareTile (fit_space_in (chunks_of_rows object rows') n3) (chunk_size_in rows') (tile_in n3)) (sym some) (record {
            chunk = other.chunk;
            whole = other_whole object rows rows' n2 n3 joint.chunk row row_at goes lives kept_2 left z other.chunk
                (λ e. other_differs object rows n0 n2 spare stored p.key y tile joint live back free elsewhere kept start end_is z some (e ∙ free.chunk_is))
                (goes_other object rows n0 n2 spare stored p.key y tile joint live back free elsewhere kept start end_is z some);
            only = λ key w.
                let was = was_wholly object rows rows' n2 n3 joint.chunk row row_at goes lives kept_2 key w in
                goes_only object rows n0 n2 spare stored p.key y tile joint live back free elsewhere kept start end_is z some key (λ e. was.0 (e ∙ sym free.chunk_is)) was.1;
          })

      pub returned_with : (b : Slot) → IsLiveFitSpan old given offset size b → IsReturnedWith object rows' n3 spare old b (chunk_of_row object row)
      returned_with b span =
          let s = goes_as object rows n0 n2 spare stored p.key y tile joint live back free elsewhere kept old _ b (chunk_of_row object row) same (block b span)
          (goes_spare object rows n0 n2 spare stored p.key y tile joint live back free elsewhere kept start end_is z some)
          (get_by_key (chunk_of_row object) rows joint.chunk ∙ ap (option_map (chunk_of_row object)) row_at) (gone_space object rows rows' n2 n3 joint.chunk row row_at goes lives kept_2) in
          record {
            stored = gone_stored object rows rows' n2 n3 joint.chunk row row_at goes lives kept_2 spare stored.sizes stored.one_object left_spare;
            goes = s.0;
            held = s.1.0;
            space = s.1.1;
          }

      -- no tile of the chunk is left
      pub gone_last : KeepsEnds tile.chunk n0 n1 → (classes : Classes) (was : Option ℕ) → AreFreeFiledBut n1 classes y was → KeepsLasts n1 classes n2 y was → KeepsEnds joint.chunk n2 n3 → AreWholeLast (chunk_size_in rows) n0 → AreWholeLast (chunk_size_in rows') n3
      gone_last ends classes was filed lasts ends_2 last =
          let here = free.chunk_is in
          stays_last (chunk_size_in rows) (chunk_size_in rows') n0 n3 tile.chunk (λ c ne. ap row_size (goes.others c (λ e. ne (e ∙ here)))) stored.kept kept_2
          (λ k a at other. left k a (elsewhere k a at other) (λ e. other (e ∙ here)))
          (λ k a at other none. ends_2 k a (elsewhere k a at other) (λ e. other (e ∙ here)) (ends_stay ends classes was filed lasts k a at other none)) last
          (λ k a at is_free start' end' of.
          let none : chunk_size_in rows' a.chunk ≡ 0 = ap (chunk_size_in rows') (of ∙ sym here) ∙ ap row_size goes.changed in
          omega (arith, kept_2.tiled.nonempty k a at, end', none))
