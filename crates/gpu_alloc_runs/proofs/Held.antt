-- What a store keeps as a chunk comes with its first block, and as a wholly free one goes.
use Rattle.std.proofs.Common.{◌≡◌, ◌≢◌, inl, inr, ℕ, ◌<◌, ◌≤◌, ◌^◌, true, false, Option, Some, None, IsSome, option_map, refl, sym, ◌∙◌, ap, subst, arith}
use Rattle.std.proofs.lemmas.Bool.{cases_eq}
use Rattle.std.specs.FinMap as map
use Rattle.std.specs.FinSet as set
use Rattle.slab.specs.Slab.{Slab, Updates, get}
use Rattle.gpu_alloc_base.specs.Accounts.{HeldChunks}
use Rattle.gpu_alloc_base.specs.SlabViews.{HasOneKeyEach}
use Rattle.gpu_alloc_base.specs.declared.free_list_block.Slot.{Slot}
use Rattle.gpu_alloc_base.proofs.Maps.{gone, kept_other}
use Rattle.gpu_alloc_base.proofs.SlabViews.{by_key_put, by_key_removed, get_by_key, once_inserted, once_removed}
use Rattle.gpu_alloc_base.proofs.Slots.{slot_inserted}
use Rattle.gpu_alloc_runs.specs.Classes.{filed_but}
use Rattle.gpu_alloc_runs.specs.Filed.{AreFreeFiledBut, AreWholeLast, KeepsEnds, KeepsLasts, down_of, filed_in}
use Rattle.gpu_alloc_runs.specs.Inside.{IsSpareTile, IsStoredInTiles, IsWholeTile, chunk_of_row, chunk_size_in, chunks_of_rows, fit_space_in, live_slots_in, row_size, slot_of}
use Rattle.gpu_alloc_runs.specs.Links.{AreNodesKept, KeepsNodes}
use Rattle.gpu_alloc_runs.specs.Space.{BeginsFitChunk, FitSpace, IsLiveSlot, IsUnheld, IsWhollyFree, with_chunk, with_slot, without_chunk}
use Rattle.gpu_alloc_runs.specs.Tiles.{HasNoLiveTile, IsLiveAt, KeepsElsewhere, KeepsLive, KeepsOthers, tile_in}
use Rattle.gpu_alloc_runs.specs.declared.classes.Classes.{Classes}
use Rattle.gpu_alloc_runs.specs.declared.fits.Chunk.{Chunk as Row}
use Rattle.gpu_alloc_runs.specs.declared.tile.Node.{Node}
use Rattle.gpu_alloc_runs.specs.declared.tile.Tile.{Tile}
use Rattle.gpu_alloc_runs.proofs.Chunks.{Resizes, begun, begun_else, begun_keeps, begun_lives, object_of_row, resized}
use Rattle.gpu_alloc_runs.proofs.Ends.{used_last}
use Rattle.gpu_alloc_runs.proofs.Filing.{but_same}
use Rattle.gpu_alloc_runs.proofs.Live.{in_live, live_elsewhere, live_more, live_same}
use Rattle.gpu_alloc_runs.proofs.Nodes.{keeps_kept, tile_of, with_tiles}
use Rattle.gpu_alloc_runs.proofs.Stored.{block_slot}

-- The chunk of a row goes, in which no block is live.

module _ {M : Type 0} (object : M → ℕ) (old new : Slab (Row M)) (n1 n2 : Slab Node) (chunk : ℕ) (row : Row M) (was : get old chunk ≡ Some row) (goes : Updates old new chunk None) (lives : KeepsLive (tile_in n1) (tile_in n2))
    (kept : AreNodesKept (chunk_size_in new) n2) where
  abbrev before : FitSpace
  before = fit_space_in (chunks_of_rows object old) n1

  abbrev after : FitSpace
  after = fit_space_in (chunks_of_rows object new) n2

  chunks_are : chunks_of_rows object new ≡ map.remove (chunks_of_rows object old) chunk
  chunks_are = by_key_removed (chunk_of_row object) old new chunk goes

  -- no tile is of it
  elsewhere : (k : ℕ) (a : Tile) → tile_in n2 k ≡ Some a → a.chunk ≢ chunk
  elsewhere k a is here =
      let none : chunk_size_in new a.chunk ≡ 0 = ap (chunk_size_in new) here ∙ ap row_size goes.changed in
      omega (arith, kept.tiled.nonempty k a is, kept.tiled.inside k a is, none)

  live_is : live_slots_in (chunks_of_rows object new) n2 ≡ live_slots_in (chunks_of_rows object old) n1
  live_is =
      live_elsewhere (chunks_of_rows object old) (chunks_of_rows object new) n2 (λ k a live.
      get_by_key (chunk_of_row object) new a.chunk ∙ ap (option_map (chunk_of_row object)) (goes.others a.chunk (elsewhere k a live.0)) ∙ sym (get_by_key (chunk_of_row object) old a.chunk))
      ∙ live_same (chunks_of_rows object old) n1 n2 lives

  pub gone_space : after ≡ without_chunk before chunk
  gone_space = λ i. record { chunks = chunks_are i; live = live_is i }

  was_live : (slot : Slot) → IsLiveSlot before slot → IsLiveSlot after slot
  was_live slot l = subst (λ s. set.contains s slot ≡ true) (sym live_is) l

  not_held : (key : ℕ) → IsSome (map.get (chunks_of_rows object new) key) → key ≢ chunk
  not_held key some same =
      let none = ap (map.get (chunks_of_rows object new)) same ∙ ap (λ (m : HeldChunks). map.get m chunk) chunks_are ∙ gone (chunks_of_rows object old) chunk in
      let there : IsSome (map.get (chunks_of_rows object new) key) = some in
      absurd (cc)

  held_was : (key : ℕ) → key ≢ chunk → map.get (chunks_of_rows object new) key ≡ map.get (chunks_of_rows object old) key
  held_was key ne = ap (λ (m : HeldChunks). map.get m key) chunks_are ∙ kept_other (chunks_of_rows object old) chunk key ne

  pub was_wholly : (key : ℕ) → IsWhollyFree after key → (key ≢ chunk) × IsWhollyFree before key
  was_wholly key w =
      let ne = not_held key w.held in
      (ne, record { held = subst IsSome (held_was key ne) w.held; unused = λ slot l. w.unused slot (was_live slot l) })

  -- a whole tile of another chunk is one still
  pub other_whole : KeepsElsewhere chunk (tile_in n1) (tile_in n2) → (z other : ℕ) → other ≢ chunk → IsWholeTile (chunk_size_in old) (tile_in n1) z other → IsWholeTile (chunk_size_in new) (tile_in n2) z other
  other_whole stays z other ne w = record {
    tile = w.tile;
    at = stays z w.tile w.at (λ same. ne (sym w.chunk_is ∙ same));
    free = w.free;
    start = w.start;
    end = w.end ∙ sym (ap row_size (goes.others other ne));
    chunk_is = w.chunk_is;
  }

  pub gone_stored : (spare : Option ℕ) → ((k : ℕ) (r : Row M) → get old k ≡ Some r → (0 < r.size) × (r.size < 2 ^ 64)) → HasOneKeyEach (λ (r : Row M). object r.memory) old
      → IsSpareTile after (chunk_size_in new) (tile_in n2) spare → IsStoredInTiles object new n2 spare
  gone_stored spare sizes once spare_is = record {
    kept = kept;
    sizes = λ k r is. sizes k r (elim (cases_eq k chunk) [
      | inl here ↦ absurd (let none : None ≡ Some r = sym goes.changed ∙ sym (ap (get new) here) ∙ is in cc)
      | inr ne ↦ sym (goes.others k ne) ∙ is
    ]);
    one_object = once_removed (λ (r : Row M). object r.memory) old new chunk row once (record { was = was; updates = goes });
    spare_is = spare_is;
  }

-- A chunk comes, whose front becomes a live block.

module _ {M : Type 0} (object : M → ℕ) (old new : Slab (Row M)) (n0 n1 n2 : Slab Node) (spare : Option ℕ) (stored : IsStoredInTiles object old n0 spare) (chunk : ℕ) (row : Row M) (vacant : get old chunk ≡ None)
    (comes : Updates old new chunk (Some row)) (lives : KeepsLive (tile_in n0) (tile_in n1)) (others_0 : (k : ℕ) (c : Tile) → tile_in n0 k ≡ Some c → tile_in n1 k ≡ Some c) (else_0 : (k : ℕ) (c : Tile) → tile_in n0 k ≡ Some c → c.chunk ≢ chunk)
    (x : ℕ) (b : Tile) (unused : HasNoLiveTile (tile_in n1) x) (live : IsLiveAt (tile_in n2) x b) (of_chunk : b.chunk ≡ chunk) (others : KeepsOthers (tile_in n1) (tile_in n2) x)
    (elsewhere_1 : KeepsElsewhere chunk (tile_in n1) (tile_in n2)) (kept : AreNodesKept (chunk_size_in new) n2) where
  abbrev first : FitSpace
  first = fit_space_in (chunks_of_rows object old) n0

  abbrev then : FitSpace
  then = fit_space_in (chunks_of_rows object new) n2

  abbrev block : Slot
  block = slot_of (chunks_of_rows object new) b

  chunks_with : chunks_of_rows object new ≡ map.insert (chunks_of_rows object old) chunk (chunk_of_row object row)
  chunks_with = by_key_put (chunk_of_row object) old new chunk row comes

  held_other : (key : ℕ) → key ≢ chunk → map.get (chunks_of_rows object new) key ≡ map.get (chunks_of_rows object old) key
  held_other key ne = get_by_key (chunk_of_row object) new key ∙ ap (option_map (chunk_of_row object)) (comes.others key ne) ∙ sym (get_by_key (chunk_of_row object) old key)

  live_with : live_slots_in (chunks_of_rows object new) n2 ≡ set.insert (live_slots_in (chunks_of_rows object old) n0) block
  live_with =
      live_more (chunks_of_rows object new) n1 n2 x b unused live others
      ∙ ap (λ l. set.insert l block)
      (live_same (chunks_of_rows object new) n0 n1 lives
      ∙ live_elsewhere (chunks_of_rows object old) (chunks_of_rows object new) n0 (λ k c l. held_other c.chunk (else_0 k c l.0)))

  pub begun_space : (slot : Slot) (size : ℕ) → slot ≡ block → row.size ≡ size → slot.object ≡ object row.memory → then ≡ with_slot (with_chunk first slot size) slot
  begun_space slot size is size_is named =
      let at_chunk : slot.chunk ≡ chunk = ap (λ (s : Slot). s.chunk) is ∙ of_chunk in
      let chunks_then : chunks_of_rows object new ≡ map.insert (chunks_of_rows object old) slot.chunk (record { object = slot.object; size = size }) =
      chunks_with ∙ (λ i. map.insert (chunks_of_rows object old) (sym at_chunk i) (record { object = sym named i; size = size_is i })) in
      let live_then : live_slots_in (chunks_of_rows object new) n2 ≡ set.insert (live_slots_in (chunks_of_rows object old) n0) slot = live_with ∙ ap (set.insert (live_slots_in (chunks_of_rows object old) n0)) (sym is) in
      λ i. record { chunks = chunks_then i; live = live_then i }

  stays_live : (slot : Slot) → IsLiveSlot first slot → IsLiveSlot then slot
  stays_live slot l = subst (λ s. set.contains s slot ≡ true) (sym live_with) ((slot_inserted (live_slots_in (chunks_of_rows object old) n0) block slot).1 (inr l))

  wholly_was : (key : ℕ) → IsWhollyFree then key → IsWhollyFree first key
  wholly_was key w =
      let ne : key ≢ chunk = λ same. w.unused block ((in_live (chunks_of_rows object new) n2 block).1 (x, b, live, refl)) (of_chunk ∙ sym same) in
      record { held = subst IsSome (held_other key ne) w.held; unused = λ slot l. w.unused slot (stays_live slot l) }

  begun_spare : (old_spare : Option ℕ) → IsSpareTile first (chunk_size_in old) (tile_in n0) old_spare → IsSpareTile then (chunk_size_in new) (tile_in n2) old_spare
  begun_spare None none = λ key w. none key (wholly_was key w)
  begun_spare (Some z) whole =
      let w = whole.whole in
      let ne = else_0 z w.tile w.at in
      let other : whole.chunk ≢ chunk = λ same. ne (w.chunk_is ∙ same) in
      record {
        chunk = whole.chunk;
        whole = record { tile = w.tile; at = elsewhere_1 z w.tile (others_0 z w.tile w.at) ne; free = w.free; start = w.start; end = w.end ∙ sym (ap row_size (comes.others whole.chunk other)); chunk_is = w.chunk_is };
        only = λ key v. whole.only key (wholly_was key v);
      }

  pub begun_stored : (0 < row.size) × (row.size < 2 ^ 64) → ((k : ℕ) (r : Row M) → get old k ≡ Some r → object r.memory ≢ object row.memory) → IsStoredInTiles object new n2 spare
  begun_stored sized unheld = record {
    kept = kept;
    sizes = λ k r is. elim (cases_eq k chunk) [
      | inl here ↦ let same : row ≡ r = (let e : Some row ≡ Some r = sym comes.changed ∙ sym (ap (get new) here) ∙ is in cc) in subst (λ (q : Row M). (0 < q.size) × (q.size < 2 ^ 64)) same sized
      | inr ne ↦ stored.sizes k r (sym (comes.others k ne) ∙ is)
    ];
    one_object = once_inserted (λ (r : Row M). object r.memory) old new chunk row stored.one_object unheld (record { was_vacant = vacant; updates = comes });
    spare_is = begun_spare spare stored.spare_is;
  }

-- The steps in which it comes: its row, its tile, all of it free, and what is cut out.

module _ {M : Type 0} (object : M → ℕ) (old new : Slab (Row M)) (n0 s1 n1 n2 : Slab Node) (spare : Option ℕ) (stored : IsStoredInTiles object old n0 spare) (chunk x size name : ℕ) (row : Row M) (node : Node)
    (vacant : get old chunk ≡ None) (comes : Updates old new chunk (Some row)) (vacant_tile : get n0 x ≡ None) (comes_tile : Updates n0 s1 x (Some node)) (tile : node.tile ≡ record { chunk = chunk; start = 0; end = row.size; free = true })
    (files : KeepsNodes s1 n1) (some : 0 < size) (inside : size ≤ row.size) (bounded : row.size < 2 ^ 64) (named : object row.memory ≡ name) (unheld : IsUnheld (fit_space_in (chunks_of_rows object old) n0) name) where
  first_size : Resizes (chunk_size_in old) (chunk_size_in new) chunk row.size
  first_size = resized old new chunk row.size (Some row) comes refl

  unheld_size : chunk_size_in old chunk ≡ 0
  unheld_size = ap row_size vacant

  some_row : 0 < row.size
  some_row = omega (arith, some, inside)

  pub come_kept : AreNodesKept (chunk_size_in new) n1
  come_kept = keeps_kept s1 n1 files (chunk_size_in new) (begun (chunk_size_in old) (chunk_size_in new) chunk row.size n0 s1 x node stored.kept unheld_size some_row first_size vacant_tile comes_tile tile)

  abbrev come_block : Tile
  come_block = record { chunk = chunk; start = 0; end = size; free = false }

  module _ (y : ℕ) (unused : HasNoLiveTile (tile_in n1) y) (live : IsLiveAt (tile_in n2) y come_block) (others : KeepsOthers (tile_in n1) (tile_in n2) y) (elsewhere_1 : KeepsElsewhere chunk (tile_in n1) (tile_in n2)) (kept : AreNodesKept (chunk_size_in new) n2) where
    come_lives : KeepsLive (tile_in n0) (tile_in n1)
    come_lives = with_tiles s1 n1 files (λ T. KeepsLive (tile_in n0) T) (begun_lives (chunk_size_in old) (chunk_size_in new) chunk row.size n0 s1 x node stored.kept unheld_size some_row first_size vacant_tile comes_tile tile)

    come_keeps : (k : ℕ) (c : Tile) → tile_in n0 k ≡ Some c → tile_in n1 k ≡ Some c
    come_keeps k c is = files.tiles k ∙ begun_keeps (chunk_size_in old) (chunk_size_in new) chunk row.size n0 s1 x node stored.kept unheld_size some_row first_size vacant_tile comes_tile tile k c is

    come_else : (k : ℕ) (c : Tile) → tile_in n0 k ≡ Some c → c.chunk ≢ chunk
    come_else k c is = begun_else (chunk_size_in old) (chunk_size_in new) chunk row.size n0 s1 x node stored.kept unheld_size some_row first_size vacant_tile comes_tile tile k c is

    pub come_stored : IsStoredInTiles object new n2 spare
    come_stored =
        begun_stored object old new n0 n1 n2 spare stored chunk row vacant comes come_lives come_keeps come_else y come_block unused live refl others elsewhere_1 kept (some_row, bounded)
        (λ k r is same. unheld k (chunk_of_row object r) (get_by_key (chunk_of_row object) old k ∙ ap (option_map (chunk_of_row object)) is) (same ∙ named))

    -- the wholly free chunk stays the last of its class
    pub come_last : (classes : Classes) → AreFreeFiledBut s1 classes x None → KeepsLasts s1 classes n1 x None → KeepsEnds chunk n1 n2 → AreWholeLast (chunk_size_in old) n0 → AreWholeLast (chunk_size_in new) n2
    come_last classes filed lasts ends last =
        used_last (chunk_size_in old) (chunk_size_in new) n0 n2 chunk first_size.others stored.kept kept (λ k c is ne. elsewhere_1 k c (come_keeps k c is) ne)
        (λ k c is ne none.
        let other : k ≢ x = (λ same. let no : None ≡ Some c = sym (ap tile_of vacant_tile) ∙ sym (ap (tile_in n0) same) ∙ is in cc) in
        ends k c (come_keeps k c is) ne (lasts (filed_but (filed_in s1) x None) filed (but_same (filed_in s1) x x None refl) k other (ap down_of (comes_tile.others k other) ∙ none)))
        last y come_block live refl

    -- the block by its own name
    come_is : slot_of (chunks_of_rows object new) come_block ≡ record { object = name; chunk = chunk; offset = 0; size = size }
    come_is = block_slot (chunks_of_rows object new) chunk 0 size size name (omega arith) (object_of_row object new chunk row comes.changed ∙ named)

    pub come_space : (slot : Slot) → slot ≡ record { object = name; chunk = chunk; offset = 0; size = size }
        → fit_space_in (chunks_of_rows object new) n2 ≡ with_slot (with_chunk (fit_space_in (chunks_of_rows object old) n0) slot row.size) slot
    come_space slot is =
        begun_space object old new n0 n1 n2 spare stored chunk row vacant comes come_lives come_keeps come_else y come_block unused live refl others elsewhere_1 kept slot row.size
        (is ∙ sym come_is) refl (ap (λ (s : Slot). s.object) is ∙ sym named)

  pub come_begins : (slot : Slot) → slot ≡ record { object = name; chunk = chunk; offset = 0; size = size } → BeginsFitChunk (fit_space_in (chunks_of_rows object old) n0) size slot
  come_begins slot is = record {
    exact = ap (λ (s : Slot). s.size) is;
    start = ap (λ (s : Slot). s.offset) is;
    free_key = ap (map.get (chunks_of_rows object old)) (ap (λ (s : Slot). s.chunk) is) ∙ get_by_key (chunk_of_row object) old chunk ∙ ap (option_map (chunk_of_row object)) vacant;
  }
