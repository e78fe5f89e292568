-- What a store keeps, and what comes of it as a block is taken and comes back, and as a chunk comes and goes.
use Rattle.std.proofs.Common.{◌≡◌, ◌≢◌, inl, inr, ℕ, ◌+◌, ◌-◌, ◌<◌, ◌≤◌, ◌^◌, true, false, List, Option, Some, None, Result, Ok, Err, IsErr, IsSome, option_map, refl, sym, ◌∙◌, ap, subst, arith}
use Rattle.std.proofs.lemmas.Bool.{cases_eq}
use Rattle.std.specs.Prelude as list
use Rattle.std.specs.Prelude.{slice_index_or}
use Rattle.std.specs.Ordering.{nat_cmp}
use Rattle.std.specs.FinMap as map
use Rattle.std.specs.FinSet as set
use Rattle.slab.specs.Slab.{Slab, entries_from, get}
use Rattle.gpu_alloc_base.specs.Accounts.{HeldChunks}
use Rattle.gpu_alloc_base.specs.Chunks.{Chunk, object_in}
use Rattle.gpu_alloc_base.specs.FreeRuns.{IsListPlace, tail_start}
use Rattle.gpu_alloc_base.specs.SlabViews.{HasOneKeyEach}
use Rattle.gpu_alloc_base.specs.declared.free_list_block.Slot.{Slot}
use Rattle.gpu_alloc_base.proofs.FreeRuns.{tail_below}
use Rattle.gpu_alloc_base.proofs.ListedRanges.{told_object}
use Rattle.gpu_alloc_base.proofs.SlabViews.{found_by_key, get_by_key}
use Rattle.gpu_alloc_base.proofs.Slots.{slot_inserted, slot_removed}
use Rattle.gpu_alloc_runs.specs.Choice.{IsChosenRun}
use Rattle.gpu_alloc_runs.specs.Filed.{down_of}
use Rattle.gpu_alloc_runs.specs.Fits.{TakesFit}
use Rattle.gpu_alloc_runs.specs.Inside.{IsAtKey, IsBlockPlace, IsBlockTile, IsLiveTile, IsSpareTile, IsStore, IsStoredInTiles, IsTheWhole, IsWholeTile, IsWithout, chunk_of_row, chunk_size_in, chunks_of_rows, fit_space_in, live_slot, live_slots_in, made_of, row_size, slot_of}
use Rattle.gpu_alloc_runs.specs.Links.{AreNodesKept, after_of, before_of}
use Rattle.gpu_alloc_runs.specs.Space.{HasPlace, IsFitting, IsFreeIn, IsLiveSlot, IsLiveFitSpan, IsSoundFitSpace, IsSpare, IsWhollyFree, LiesInChunk, FitSpace, chunk_bytes, with_slot, without_slot, without_chunk}
use Rattle.gpu_alloc_runs.specs.Tiles.{HasNoLiveTile, HasRoomAt, HasRoomIn, IsFreeTileOf, IsLiveAt, KeepsElsewhere, KeepsOthers, PutsTileBack, tile_in, tile_region}
use Rattle.gpu_alloc_runs.specs.declared.classes.Classes.{Classes}
use Rattle.gpu_alloc_runs.specs.declared.fits.Chunk.{Chunk as Row}
use Rattle.gpu_alloc_runs.specs.declared.tile.Node.{Node}
use Rattle.gpu_alloc_runs.specs.declared.tile.Place.{Place}
use Rattle.gpu_alloc_runs.specs.declared.tile.Tile.{Tile}
use Rattle.gpu_alloc_runs.proofs.Chunks.{object_of_row}
use Rattle.gpu_alloc_runs.proofs.Filed.{same_slots}
use Rattle.gpu_alloc_runs.proofs.Live.{in_live, live_less, live_more}
use Rattle.gpu_alloc_runs.proofs.Nodes.{keeps_kept, tile_of, tile_of_node}
use Rattle.gpu_alloc_runs.proofs.Runs.{held_chunk, held_row, in_place}
use Rattle.gpu_alloc_runs.proofs.Tiles.{one_tile, unused_whole, whole_unused}

-- the block of these bytes of a held chunk
pub block_slot : (chunks : HeldChunks) (chunk start end size name : ℕ) → end ≡ start + size → object_in (map.get chunks chunk) ≡ name
    → slot_of chunks (record { chunk = chunk; start = start; end = end; free = false }) ≡ record { object = name; chunk = chunk; offset = start; size = size }
block_slot chunks chunk start end size name long named = let exact : end - start ≡ size = omega (arith, long) in λ i. record { object = named i; chunk = chunk; offset = start; size = exact i }

-- Only room changes.

module _ {M : Type 0} (object : M → ℕ) (rows rows' : Slab (Row M)) (nodes nodes' : Slab Node) (same_rows : rows'.slots ≡ rows.slots) (same_nodes : nodes'.slots ≡ nodes.slots) where
  same_row : (k : ℕ) → get rows' k ≡ get rows k
  same_row k = ap (λ (xs : List (Option (Row M))). slice_index_or xs k None) same_rows

  same_node : (k : ℕ) → get nodes' k ≡ get nodes k
  same_node k = ap (λ (xs : List (Option Node)). slice_index_or xs k None) same_nodes

  same_sizes : chunk_size_in rows' ≡ chunk_size_in rows
  same_sizes i k = row_size (same_row k i)

  same_tiles : tile_in nodes' ≡ tile_in nodes
  same_tiles i k = tile_of (same_node k i)

  pub same_space : fit_space_in (chunks_of_rows object rows') nodes' ≡ fit_space_in (chunks_of_rows object rows) nodes
  unfolding live_slots_in
  same_space =
      let chunks_same : chunks_of_rows object rows' ≡ chunks_of_rows object rows = (λ i. map.from_entries {R = nat_cmp} (list.map (λ (e : ℕ × Row M). (e.0, chunk_of_row object e.1)) (entries_from 0 (same_rows i)))) in
      λ i. record { chunks = chunks_same i; live = set.from_list (made_of (live_slot (chunks_same i)) (entries_from 0 (same_nodes i))) }

  pub stored_same : (spare : Option ℕ) → IsStoredInTiles object rows nodes spare → IsStoredInTiles object rows' nodes' spare
  stored_same spare stored = record {
    kept = subst (λ size. AreNodesKept size nodes') (sym same_sizes) (keeps_kept nodes nodes' (record {
      tiles = λ k. ap tile_of (same_node k);
      before = λ k. ap before_of (same_node k);
      after = λ k. ap after_of (same_node k);
    }) (chunk_size_in rows) stored.kept);
    sizes = λ k row is. stored.sizes k row (sym (same_row k) ∙ is);
    one_object = λ i k a b is_a is_b same. stored.one_object i k a b (sym (same_row i) ∙ is_a) (sym (same_row k) ∙ is_b) same;
    spare_is = subst (λ T. IsSpareTile (fit_space_in (chunks_of_rows object rows') nodes') (chunk_size_in rows') T spare) (sym same_tiles)
        (subst (λ size. IsSpareTile (fit_space_in (chunks_of_rows object rows') nodes') size (tile_in nodes) spare) (sym same_sizes)
        (subst (λ s. IsSpareTile s (chunk_size_in rows) (tile_in nodes) spare) (sym same_space) stored.spare_is));
  }

  pub store_same : (classes : Classes) (spare : Option ℕ) → IsStore object rows nodes classes spare → IsStore object rows' nodes' classes spare
  store_same classes spare store = record {
    stored = stored_same spare store.stored;
    filed = same_slots nodes nodes' classes same_nodes store.filed;
    whole_last = λ k a at free start end. ap down_of (same_node k) ∙ store.whole_last k a (sym (ap tile_of (same_node k)) ∙ at) free start (end ∙ ap row_size (same_row a.chunk));
  }

module _ {M : Type 0} (object : M → ℕ) (rows : Slab (Row M)) (nodes : Slab Node) (kept : AreNodesKept (chunk_size_in rows) nodes) where
  abbrev chunks : HeldChunks
  chunks = chunks_of_rows object rows

  abbrev space : FitSpace
  space = fit_space_in chunks nodes

  -- a live tile is a live block
  pub tile_is_live : (k : ℕ) (a : Tile) → IsLiveAt (tile_in nodes) k a → IsLiveSlot space (slot_of chunks a)
  tile_is_live k a live = (in_live chunks nodes (slot_of chunks a)).1 (k, a, live, refl)

  -- a chunk whose only tile is free is wholly free, and a free tile of such a chunk is its only one
  pub whole_is_free : (x chunk : ℕ) → IsWholeTile (chunk_size_in rows) (tile_in nodes) x chunk → IsWhollyFree space chunk
  whole_is_free x chunk whole =
      let some = kept.tiled.nonempty x whole.tile whole.at in
      let held = held_chunk object rows chunk (omega (arith, some, whole.start, whole.end)) in
      record {
        held = subst IsSome (sym held.1) refl;
        unused = λ slot live same.
            let h = (in_live chunks nodes slot).0 live in
            let end : whole.tile.end ≡ chunk_size_in rows whole.tile.chunk = whole.end ∙ ap (chunk_size_in rows) (sym whole.chunk_is) in
            whole_unused (chunk_size_in rows) (tile_in nodes) x whole.tile kept.tiled whole.at whole.free whole.start end h.0 h.1 h.2 (ap (λ (s : Slot). s.chunk) h.3 ∙ same ∙ sym whole.chunk_is);
      }

  pub free_is_whole : (x : ℕ) (a : Tile) → tile_in nodes x ≡ Some a → a.free ≡ true → IsWhollyFree space a.chunk → (a.start ≡ 0) × (a.end ≡ chunk_size_in rows a.chunk)
  free_is_whole x a at free wholly = unused_whole (chunk_size_in rows) (tile_in nodes) x a kept.tiled kept.calm at free (λ k c live same. wholly.unused (slot_of chunks c) (tile_is_live k c live) same)

  -- a live tile lies in its chunk
  tile_lies : (k : ℕ) (a : Tile) → IsLiveAt (tile_in nodes) k a → LiesInChunk space (slot_of chunks a)
  tile_lies k a live =
      let some = kept.tiled.nonempty k a live.0 in
      let inside = kept.tiled.inside k a live.0 in
      let held = held_chunk object rows a.chunk (omega (arith, some, inside)) in
      record {
        chunk = held.0;
        held = held.1;
        object = told_object (map.get chunks a.chunk) held.0 held.1;
        nonempty = omega (arith, some);
        inside = omega (arith, some, inside, held.2);
      }

  one_free : (spare : Option ℕ) → IsSpareTile space (chunk_size_in rows) (tile_in nodes) spare → (i k : ℕ) → IsWhollyFree space i → IsWhollyFree space k → i ≡ k
  one_free None none i k free_i free_k = absurd (none i free_i)
  one_free (Some x) whole i k free_i free_k = whole.only i free_i ∙ sym (whole.only k free_k)

  pub sound : (spare : Option ℕ) → IsStoredInTiles object rows nodes spare → IsSoundFitSpace space
  sound spare stored = record {
    one_object = λ i k c d is_c is_d same.
        let r = found_by_key (chunk_of_row object) rows i c is_c in
        let q = found_by_key (chunk_of_row object) rows k d is_d in
        stored.one_object i k r.0 q.0 r.1 q.1 (ap (λ (x : Chunk). x.object) r.2 ∙ same ∙ sym (ap (λ (x : Chunk). x.object) q.2));
    sizes = λ k c is.
        let r = found_by_key (chunk_of_row object) rows k c is in
        let s = stored.sizes k r.0 r.1 in
        let e = ap (λ (x : Chunk). x.size) r.2 in
        subst (λ n. (0 < n) × (n < 2 ^ 64)) e s;
    inside = λ slot live.
        let h = (in_live chunks nodes slot).0 live in
        subst (LiesInChunk space) h.3 (tile_lies h.0 h.1 h.2);
    apart = λ x y live_x live_y same at in_x in_y.
        let h = (in_live chunks nodes x).0 live_x in
        let g = (in_live chunks nodes y).0 live_y in
        let some_h = kept.tiled.nonempty h.0 h.1 h.2.0 in
        let some_g = kept.tiled.nonempty g.0 g.1 g.2.0 in
        let x_from = ap (λ (s : Slot). s.offset) h.3 in
        let x_long = ap (λ (s : Slot). s.size) h.3 in
        let y_from = ap (λ (s : Slot). s.offset) g.3 in
        let y_long = ap (λ (s : Slot). s.size) g.3 in
        let key = kept.tiled.apart h.0 g.0 h.1 g.1 h.2.0 g.2.0 (ap (λ (s : Slot). s.chunk) h.3 ∙ same ∙ sym (ap (λ (s : Slot). s.chunk) g.3))
        (omega (arith, in_x.from, in_y.to, x_from, y_from, y_long, some_g)) (omega (arith, in_y.from, in_x.to, x_from, x_long, y_from, some_h)) in
        sym h.3 ∙ ap (slot_of chunks) (one_tile (tile_in nodes) h.0 g.0 h.1 g.1 h.2.0 g.2.0 key) ∙ g.3;
    one_free = one_free spare stored.spare_is;
  }

  -- The tile of a live block.

  pub found_at : (slot : Slot) → IsLiveSlot space slot → (k : ℕ) × IsAtKey chunks (tile_in nodes) slot.object slot.offset slot.size k
  found_at slot live =
      let h = (in_live chunks nodes slot).0 live in
      let tile : IsLiveTile slot.offset slot.size h.1 = record { live = h.2.1; starts = ap (λ (s : Slot). s.offset) h.3; of_size = ap (λ (s : Slot). s.size) h.3 } in
      (h.0, (h.1, (h.2.0, record { tile = tile; of_object = ap (λ (s : Slot). s.object) h.3 })))

  pub the_slot : HasOneKeyEach (λ (row : Row M). object row.memory) rows → (slot : Slot) → IsLiveSlot space slot → (k : ℕ) (at : IsAtKey chunks (tile_in nodes) slot.object slot.offset slot.size k) → slot_of chunks at.0 ≡ slot
  the_slot once slot live k at =
      let h = (in_live chunks nodes slot).0 live in
      let some = kept.tiled.nonempty k at.0 at.1.0 in
      let inside = kept.tiled.inside k at.0 at.1.0 in
      let some_h = kept.tiled.nonempty h.0 h.1 h.2.0 in
      let inside_h = kept.tiled.inside h.0 h.1 h.2.0 in
      let mine = held_chunk object rows at.0.chunk (omega (arith, some, inside)) in
      let its = held_chunk object rows h.1.chunk (omega (arith, some_h, inside_h)) in
      let r = found_by_key (chunk_of_row object) rows at.0.chunk mine.0 mine.1 in
      let q = found_by_key (chunk_of_row object) rows h.1.chunk its.0 its.1 in
      let named : mine.0.object ≡ its.0.object =
      sym (told_object (map.get chunks at.0.chunk) mine.0 mine.1) ∙ at.1.1.of_object ∙ sym (ap (λ (s : Slot). s.object) h.3) ∙ told_object (map.get chunks h.1.chunk) its.0 its.1 in
      let chunk : at.0.chunk ≡ h.1.chunk = once at.0.chunk h.1.chunk r.0 q.0 r.1 q.1 (ap (λ (x : Chunk). x.object) r.2 ∙ named ∙ sym (ap (λ (x : Chunk). x.object) q.2)) in
      let start : at.0.start ≡ h.1.start = at.1.1.tile.starts ∙ sym (ap (λ (s : Slot). s.offset) h.3) in
      let key = kept.tiled.apart k h.0 at.0 h.1 at.1.0 h.2.0 chunk (omega (arith, start, some_h)) (omega (arith, start, some)) in
      ap (slot_of chunks) (one_tile (tile_in nodes) k h.0 at.0 h.1 at.1.0 h.2.0 key) ∙ h.3

-- the tile of a place stands under its key
abbrev pub at_place : {M : Type 0} {name : M → ℕ} {rows : Slab (Row M)} {nodes : Slab Node} {object offset size : ℕ} {p : Place} → IsBlockPlace name rows nodes object offset size p → IsAtKey (chunks_of_rows name rows) (tile_in nodes) object offset size p.key
at_place {M} {name} {rows} {nodes} {object} {offset} {size} {p} is = (p.node.tile, (tile_of_node nodes p.key p.node is.at, is.block))

-- A block is taken out of a free tile.

module _ {M : Type 0} (object : M → ℕ) (rows : Slab (Row M)) (n0 n1 : Slab Node) (spare : Option ℕ) (stored : IsStoredInTiles object rows n0 spare) (x y : ℕ) (a b : Tile) (at : tile_in n0 y ≡ Some a) (unused : HasNoLiveTile (tile_in n0) x)
    (live : IsLiveAt (tile_in n1) x b) (same_chunk : b.chunk ≡ a.chunk) (others : KeepsOthers (tile_in n0) (tile_in n1) x) (elsewhere : KeepsElsewhere a.chunk (tile_in n0) (tile_in n1)) (kept : AreNodesKept (chunk_size_in rows) n1) where
  abbrev chunks_t : HeldChunks
  chunks_t = chunks_of_rows object rows

  live_is : live_slots_in chunks_t n1 ≡ set.insert (live_slots_in chunks_t n0) (slot_of chunks_t b)
  live_is = live_more chunks_t n0 n1 x b unused live others

  pub taken_space : fit_space_in chunks_t n1 ≡ with_slot (fit_space_in chunks_t n0) (slot_of chunks_t b)
  taken_space = λ i. record { chunks = chunks_t; live = live_is i }

  -- what is live stays so
  stays_live : (slot : Slot) → IsLiveSlot (fit_space_in chunks_t n0) slot → IsLiveSlot (fit_space_in chunks_t n1) slot
  stays_live slot was = subst (λ l. set.contains l slot ≡ true) (sym live_is) ((slot_inserted (live_slots_in chunks_t n0) (slot_of chunks_t b) slot).1 (inr was))

  was_wholly : (key : ℕ) → IsWhollyFree (fit_space_in chunks_t n1) key → IsWhollyFree (fit_space_in chunks_t n0) key
  was_wholly key w = record { held = w.held; unused = λ slot l. w.unused slot (stays_live slot l) }

  -- the chunk of the block is not wholly free
  used : IsWhollyFree (fit_space_in chunks_t n1) a.chunk → ⊥
  used w = w.unused (slot_of chunks_t b) ((in_live chunks_t n1 (slot_of chunks_t b)).1 (x, b, live, refl)) same_chunk

  taken_spare : (old new : Option ℕ) → IsSpareTile (fit_space_in chunks_t n0) (chunk_size_in rows) (tile_in n0) old → IsWithout old y new → IsSpareTile (fit_space_in chunks_t n1) (chunk_size_in rows) (tile_in n1) new
  taken_spare None new none is = subst (IsSpareTile (fit_space_in chunks_t n1) (chunk_size_in rows) (tile_in n1)) (sym is) (λ key w. none key (was_wholly key w))
  taken_spare (Some z) new whole (inl is) =
      subst (IsSpareTile (fit_space_in chunks_t n1) (chunk_size_in rows) (tile_in n1)) (sym is.1)
      (λ key w.
      let here : key ≡ a.chunk = whole.only key (was_wholly key w) ∙ sym whole.whole.chunk_is ∙ ap (λ (t : Tile). t.chunk) (one_tile (tile_in n0) z y whole.whole.tile a whole.whole.at at is.0) in
      used (subst (IsWhollyFree (fit_space_in chunks_t n1)) here w))
  taken_spare (Some z) new whole (inr is) =
      let w = whole.whole in
      let other : w.tile.chunk ≢ a.chunk = λ same.
      let some = stored.kept.tiled.nonempty y a at in
      let end : w.tile.end ≡ chunk_size_in rows a.chunk = w.end ∙ ap (chunk_size_in rows) (sym w.chunk_is ∙ same) in
      let inside = stored.kept.tiled.inside y a at in
      is.0 (stored.kept.tiled.apart z y w.tile a w.at at same (omega (arith, w.start, some)) (omega (arith, some, inside, end))) in
      subst (IsSpareTile (fit_space_in chunks_t n1) (chunk_size_in rows) (tile_in n1)) (sym is.1) (record {
        chunk = whole.chunk;
        whole = record { tile = w.tile; at = elsewhere z w.tile w.at other; free = w.free; start = w.start; end = w.end; chunk_is = w.chunk_is };
        only = λ key v. whole.only key (was_wholly key v);
      })

  pub taken_stored : (new : Option ℕ) → IsWithout spare y new → IsStoredInTiles object rows n1 new
  taken_stored new is = record {
    kept = kept;
    sizes = stored.sizes;
    one_object = stored.one_object;
    spare_is = taken_spare spare new stored.spare_is is;
  }

-- A block comes back: its tile is joined with the free ones beside it.

module _ {M : Type 0} (object : M → ℕ) (rows : Slab (Row M)) (n0 n1 : Slab Node) (spare : Option ℕ) (stored : IsStoredInTiles object rows n0 spare) (x y : ℕ) (a joint : Tile) (live : IsLiveAt (tile_in n0) x a)
    (back : PutsTileBack (tile_in n0) (tile_in n1) x) (free : IsFreeTileOf a.chunk (tile_in n1) y joint) (elsewhere : KeepsElsewhere a.chunk (tile_in n0) (tile_in n1)) (kept : AreNodesKept (chunk_size_in rows) n1) where
  abbrev chunks_g : HeldChunks
  chunks_g = chunks_of_rows object rows

  abbrev s0 : FitSpace
  s0 = fit_space_in chunks_g n0

  abbrev s1 : FitSpace
  s1 = fit_space_in chunks_g n1

  abbrev slot : Slot
  slot = slot_of chunks_g a

  less : live_slots_in chunks_g n1 ≡ set.remove (live_slots_in chunks_g n0) slot
  less = live_less chunks_g n0 n1 (chunk_size_in rows) stored.kept.tiled x a live back

  pub back_space : s1 ≡ without_slot s0 slot
  back_space = λ i. record { chunks = chunks_g; live = less i }

  -- what is live beside the block stays so, and what is live was
  stays_beside : (q : Slot) → IsLiveSlot s0 q → q ≢ slot → IsLiveSlot s1 q
  stays_beside q was other = subst (λ l. set.contains l q ≡ true) (sym less) ((slot_removed (live_slots_in chunks_g n0) slot q).1 (other, was))

  was_live : (q : Slot) → IsLiveSlot s1 q → IsLiveSlot s0 q
  was_live q now = ((slot_removed (live_slots_in chunks_g n0) slot q).0 (subst (λ l. set.contains l q ≡ true) less now)).1

  -- another chunk is wholly free where it was
  was_other : (key : ℕ) → key ≢ a.chunk → IsWhollyFree s1 key → IsWhollyFree s0 key
  was_other key other w = record {
    held = w.held;
    unused = λ q l same. w.unused q (stays_beside q l (λ is. other (sym same ∙ ap (λ (s : Slot). s.chunk) is))) same;
  }

  still_free : (key : ℕ) → IsWhollyFree s0 key → IsWhollyFree s1 key
  still_free key w = record { held = w.held; unused = λ q l. w.unused q (was_live q l) }

  -- the block's chunk was not
  was_used : IsWhollyFree s0 a.chunk → ⊥
  was_used w = w.unused slot ((in_live chunks_g n0 slot).1 (x, a, live, refl)) refl

  -- the joint is all of its chunk exactly where that is wholly free
  whole_joint : joint.start ≡ 0 → joint.end ≡ chunk_size_in rows a.chunk → IsWholeTile (chunk_size_in rows) (tile_in n1) y a.chunk
  whole_joint start end = record { tile = joint; at = free.at; free = free.free; start = start; end = end; chunk_is = free.chunk_is }

  joint_whole : IsWhollyFree s1 a.chunk → (joint.start ≡ 0) × (joint.end ≡ chunk_size_in rows a.chunk)
  joint_whole w =
      let h = free_is_whole object rows n1 kept y joint free.at free.free (subst (IsWhollyFree s1) (sym free.chunk_is) w) in
      (h.0, h.1 ∙ ap (chunk_size_in rows) free.chunk_is)

  -- the wholly free chunk that was there is there
  spare_stays : (z : ℕ) (whole : IsTheWhole s0 (chunk_size_in rows) (tile_in n0) z) → IsWholeTile (chunk_size_in rows) (tile_in n1) z whole.chunk
  spare_stays z whole =
      let w = whole.whole in
      let other : w.tile.chunk ≢ a.chunk = λ same. was_used (subst (IsWhollyFree s0) (sym w.chunk_is ∙ same) (whole_is_free object rows n0 stored.kept z whole.chunk w)) in
      record { tile = w.tile; at = elsewhere z w.tile w.at other; free = w.free; start = w.start; end = w.end; chunk_is = w.chunk_is }

  -- what a return leaves, of the space and the block by whatever else they are
  pub stays_as : (s : FitSpace) (b : Slot) → s0 ≡ s → slot ≡ b → (IsSpare (without_slot s0 slot) slot.chunk → ⊥) → (IsSpare (without_slot s b) b.chunk → ⊥) × (s1 ≡ without_slot s b)
  stays_as s b same is none =
      subst (λ t. (IsSpare (without_slot t b) b.chunk → ⊥) × (s1 ≡ without_slot t b)) same (subst (λ q. (IsSpare (without_slot s0 q) q.chunk → ⊥) × (s1 ≡ without_slot s0 q)) is (none, back_space))

  pub goes_as : (s s2 : FitSpace) (b : Slot) (held : Chunk) → s0 ≡ s → slot ≡ b → IsSpare (without_slot s0 slot) slot.chunk → map.get chunks_g joint.chunk ≡ Some held → s2 ≡ without_chunk s1 joint.chunk
      → IsSpare (without_slot s b) b.chunk × ((map.get s.chunks b.chunk ≡ Some held) × (s2 ≡ without_chunk (without_slot s b) b.chunk))
  goes_as s s2 b held same is spare_one row left =
      let at : map.get chunks_g a.chunk ≡ Some held = ap (map.get chunks_g) (sym free.chunk_is) ∙ row in
      let left_here : s2 ≡ without_chunk (without_slot s0 slot) a.chunk = left ∙ ap (without_chunk s1) free.chunk_is ∙ ap (λ t. without_chunk t a.chunk) back_space in
      subst (λ t. IsSpare (without_slot t b) b.chunk × ((map.get t.chunks b.chunk ≡ Some held) × (s2 ≡ without_chunk (without_slot t b) b.chunk))) same
      (subst (λ q. IsSpare (without_slot s0 q) q.chunk × ((map.get s0.chunks q.chunk ≡ Some held) × (s2 ≡ without_chunk (without_slot s0 q) q.chunk))) is (spare_one, (at, left_here)))

  -- The chunk is not wholly free.
  module _ (not_whole : (joint.start ≡ 0) × (joint.end ≡ chunk_size_in rows a.chunk) → ⊥) where
    partly : IsWhollyFree s1 a.chunk → ⊥
    partly w = not_whole (joint_whole w)

    partly_spare : (old : Option ℕ) → IsSpareTile s0 (chunk_size_in rows) (tile_in n0) old → IsSpareTile s1 (chunk_size_in rows) (tile_in n1) old
    partly_spare None none = λ key w. elim (cases_eq key a.chunk) [
      | inl here ↦ partly (subst (IsWhollyFree s1) here w)
      | inr other ↦ none key (was_other key other w)
    ]
    partly_spare (Some z) whole = record {
      chunk = whole.chunk;
      whole = spare_stays z whole;
      only = λ key w. elim (cases_eq key a.chunk) [
        | inl here ↦ absurd (partly (subst (IsWhollyFree s1) here w))
        | inr other ↦ whole.only key (was_other key other w)
      ];
    }

    pub partly_stored : IsStoredInTiles object rows n1 spare
    partly_stored = record { kept = kept; sizes = stored.sizes; one_object = stored.one_object; spare_is = partly_spare spare stored.spare_is }

    pub partly_stays : IsSpare (without_slot s0 slot) slot.chunk → ⊥
    partly_stays spare_one = partly (subst (λ s. IsWhollyFree s a.chunk) (sym back_space) spare_one.free)

  -- It is, as the first one.
  module _ (start : joint.start ≡ 0) (end : joint.end ≡ chunk_size_in rows a.chunk) (none : spare ≡ None) where
    none_was : (key : ℕ) → IsWhollyFree s0 key → ⊥
    none_was = subst (IsSpareTile s0 (chunk_size_in rows) (tile_in n0)) none stored.spare_is

    only_here : (key : ℕ) → IsWhollyFree s1 key → key ≡ a.chunk
    only_here key w = elim (cases_eq key a.chunk) [
      | inl here ↦ here
      | inr other ↦ absurd (none_was key (was_other key other w))
    ]

    pub first_stored : IsStoredInTiles object rows n1 (Some y)
    first_stored = record {
      kept = kept;
      sizes = stored.sizes;
      one_object = stored.one_object;
      spare_is = record { chunk = a.chunk; whole = whole_joint start end; only = only_here };
    }

    pub first_stays : IsSpare (without_slot s0 slot) slot.chunk → ⊥
    first_stays spare_one = spare_one.differs (only_here spare_one.other (subst (λ s. IsWhollyFree s spare_one.other) (sym back_space) spare_one.other_free))

  -- It is, beside another one.
  module _ (start : joint.start ≡ 0) (end : joint.end ≡ chunk_size_in rows a.chunk) (z : ℕ) (some : spare ≡ Some z) where
    pub the_other : IsTheWhole s0 (chunk_size_in rows) (tile_in n0) z
    the_other = subst (IsSpareTile s0 (chunk_size_in rows) (tile_in n0)) some stored.spare_is

    other_is_free : IsWhollyFree s0 the_other.chunk
    other_is_free = whole_is_free object rows n0 stored.kept z the_other.chunk the_other.whole

    pub other_differs : the_other.chunk ≢ a.chunk
    other_differs same = was_used (subst (IsWhollyFree s0) same other_is_free)

    pub goes_whole : IsWholeTile (chunk_size_in rows) (tile_in n1) y a.chunk
    goes_whole = whole_joint start end

    pub goes_spare : IsSpare (without_slot s0 slot) slot.chunk
    goes_spare = record {
      free = subst (λ s. IsWhollyFree s a.chunk) back_space (whole_is_free object rows n1 kept y a.chunk goes_whole);
      other = the_other.chunk;
      differs = other_differs;
      other_free = subst (λ s. IsWhollyFree s the_other.chunk) back_space (still_free the_other.chunk other_is_free);
    }

    -- what is then wholly free is the other one, or the chunk that goes
    pub goes_only : (key : ℕ) → key ≢ a.chunk → IsWhollyFree s1 key → key ≡ the_other.chunk
    goes_only key other w = the_other.only key (was_other key other w)

    pub goes_other : IsWholeTile (chunk_size_in rows) (tile_in n1) z the_other.chunk
    goes_other = spare_stays z the_other

-- The live block of a span.

module _ {M : Type 0} (object : M → ℕ) (rows : Slab (Row M)) (nodes : Slab Node) (kept : AreNodesKept (chunk_size_in rows) nodes) (name offset size : ℕ) where
  abbrev chunks_s : HeldChunks
  chunks_s = chunks_of_rows object rows

  -- where none stands, none is live
  pub none_at : ((k : ℕ) → IsAtKey chunks_s (tile_in nodes) name offset size k → ⊥) → (slot : Slot) → IsLiveFitSpan (fit_space_in chunks_s nodes) name offset size slot → ⊥
  none_at none slot span =
      let f = found_at object rows nodes kept slot span.live in
      none f.0 (
        f.1.0,
        (
          f.1.1.0,
          record {
            tile = record { live = f.1.1.1.tile.live; starts = f.1.1.1.tile.starts ∙ span.starts; of_size = f.1.1.1.tile.of_size ∙ span.of_size };
            of_object = f.1.1.1.of_object ∙ span.of_object;
          },
        ),
      )

  module _ (k : ℕ) (a : Tile) (at_a : tile_in nodes k ≡ Some a) (at : IsAtKey chunks_s (tile_in nodes) name offset size k) where
    is_block : IsBlockTile chunks_s name offset size a
    is_block = subst (IsBlockTile chunks_s name offset size) (one_tile (tile_in nodes) k k at.0 a at.1.0 at_a refl) at.1.1

    slot_is : slot_of chunks_s a ≡ record { object = name; chunk = a.chunk; offset = offset; size = size }
    slot_is = let b = is_block in λ i. record { object = b.of_object i; chunk = a.chunk; offset = b.tile.starts i; size = b.tile.of_size i }

    pub span_at : IsLiveFitSpan (fit_space_in chunks_s nodes) name offset size (record { object = name; chunk = a.chunk; offset = offset; size = size })
    span_at = record { live = subst (IsLiveSlot (fit_space_in chunks_s nodes)) slot_is (tile_is_live object rows nodes kept k a (at_a, is_block.tile.live)); of_object = refl; starts = refl; of_size = refl }

    -- it is the only one
    pub span_is : HasOneKeyEach (λ (row : Row M). object row.memory) rows → (slot : Slot) → IsLiveFitSpan (fit_space_in chunks_s nodes) name offset size slot → slot_of chunks_s a ≡ slot
    span_is once slot span =
        let b = is_block in
        the_slot object rows nodes kept once slot span.live k (
          a,
          (
            at_a,
            record {
              tile = record { live = b.tile.live; starts = b.tile.starts ∙ sym span.starts; of_size = b.tile.of_size ∙ sym span.of_size };
              of_object = b.of_object ∙ sym span.of_object;
            },
          ),
        )

    pub the_span : HasOneKeyEach (λ (row : Row M). object row.memory) rows → (slot : Slot) → IsLiveFitSpan (fit_space_in chunks_s nodes) name offset size slot → record { object = name; chunk = a.chunk; offset = offset; size = size } ≡ slot
    the_span once slot span = sym slot_is ∙ span_is once slot span

-- the block of a span, by the place of its tile
pub placed_is : {M : Type 0} (object : M → ℕ) (rows : Slab (Row M)) (nodes : Slab Node) (spare : Option ℕ) → IsStoredInTiles object rows nodes spare → (old : FitSpace) → fit_space_in (chunks_of_rows object rows) nodes ≡ old → (name given offset size : ℕ) → name ≡ given
    → (p : Place) → IsBlockPlace object rows nodes name offset size p → (b : Slot) → IsLiveFitSpan old given offset size b → slot_of (chunks_of_rows object rows) p.node.tile ≡ b
placed_is object rows nodes spare stored old same name given offset size named p is b span =
    span_is object rows nodes stored.kept name offset size p.key p.node.tile (tile_of_node nodes p.key p.node is.at) (at_place is) stored.one_object b
    (subst (λ s. IsLiveFitSpan s name offset size b) (sym same) (subst (λ n. IsLiveFitSpan old n offset size b) (sym named) span))

-- no host memory for a block that has a place
pub refused : {E : Type 0} (s new : FitSpace) (size alignment : ℕ) (answer : Result (Option Slot) E) → IsErr answer → HasPlace s size alignment → new ≡ s → TakesFit s size alignment answer new
refused s new size alignment (Ok x) is place same = absurd (cc)
refused s new size alignment (Err e) is place same = (place, same)

-- the tile that was found has room
pub room_of : (T : ℕ → Option Tile) (size alignment k : ℕ) (a : Tile) → HasRoomAt T size alignment k → T k ≡ Some a → HasRoomIn size alignment a
room_of T size alignment k a found at = subst (HasRoomIn size alignment) (one_tile T k k found.0 a found.1.0 at refl) found.1.1

-- A block at the end of a tile with room.

module _ {M : Type 0} (object : M → ℕ) (rows : Slab (Row M)) (nodes : Slab Node) (kept : AreNodesKept (chunk_size_in rows) nodes) (size mask k : ℕ) (a : Tile) (at : tile_in nodes k ≡ Some a) (room : HasRoomIn size (mask + 1) a)
    (start : ℕ) (start_is : start ≡ tail_start size (mask + 1) a.end) where
  block_ends : start + size ≤ a.end
  block_ends = let enough = room.1.enough in omega (arith, enough, start_is, tail_below size (mask + 1) a.end)

  -- its bytes are below 2^64
  pub block_bounded : ((i : ℕ) (row : Row M) → get rows i ≡ Some row → (0 < row.size) × (row.size < 2 ^ 64)) → start + size < 2 ^ 64
  block_bounded sizes =
      let some = kept.tiled.nonempty k a at in
      let inside = kept.tiled.inside k a at in
      let row = held_row object rows a.chunk (omega (arith, some, inside)) in
      let bound = (sizes a.chunk row.0 row.1).1 in
      let size_is = ap row_size row.1 in
      omega (arith, block_ends, inside, bound, size_is)

  pub block_fits : IsChosenRun (IsFreeIn (fit_space_in (chunks_of_rows object rows) nodes)) (chunk_bytes (fit_space_in (chunks_of_rows object rows) nodes)) size (mask + 1) (tile_region a) → (slot : Slot) (row : Row M) → get rows a.chunk ≡ Some row → slot ≡ record { object = object row.memory; chunk = a.chunk; offset = start; size = size } → IsFitting (fit_space_in (chunks_of_rows object rows) nodes) size (mask + 1) slot
  block_fits chosen slot row there is =
      let place : IsListPlace (IsFreeIn (fit_space_in (chunks_of_rows object rows) nodes)) size (mask + 1) a.chunk start =
      subst (IsListPlace (IsFreeIn (fit_space_in (chunks_of_rows object rows) nodes)) size (mask + 1) a.chunk) (sym start_is) (in_place object rows nodes kept size (mask + 1) (omega arith) k (a, (at, room))) in
      subst (IsFitting (fit_space_in (chunks_of_rows object rows) nodes) size (mask + 1)) (sym is) (record {
        exact = refl;
        aligned = place.aligned;
        chunk = chunk_of_row object row;
        held = get_by_key (chunk_of_row object) rows a.chunk ∙ ap (option_map (chunk_of_row object)) there;
        object = refl;
        free = place.free;
        run = tile_region a;
        in_chunk = refl;
        start = start_is;
        chosen = chosen;
      })

  pub block_is : (row : Row M) → get rows a.chunk ≡ Some row → slot_of (chunks_of_rows object rows) (record { chunk = a.chunk; start = start; end = start + size; free = false }) ≡ record { object = object row.memory; chunk = a.chunk; offset = start; size = size }
  block_is row there =
      block_slot (chunks_of_rows object rows) a.chunk start (start + size) size (object row.memory) refl (object_of_row object rows a.chunk row there)
