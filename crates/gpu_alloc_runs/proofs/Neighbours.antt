-- How many neighbours a block has that comes back, what touches a live block, and whether a store has a chunk.
use Rattle.std.proofs.Common.{◌≡◌, ◌==◌, ◌↔◌, inl, inr, ℕ, ◌+◌, ◌-◌, ◌<◌, ◌≤◌, cond, List, [], ◌∷◌, length, Option, Some, None, option_map, sym, ◌∙◌, ap, subst, refl, arith}
use Rattle.std.proofs.lemmas.Bool.Decides.{nat_tests}
use Rattle.std.proofs.lemmas.Bool.{cases_eq}
use Rattle.std.specs.Prelude as list
use Rattle.std.specs.FinMap as map
use Rattle.std.specs.Ordering.{nat_cmp}
use Rattle.slab.specs.Slab.{Slab, entries, get, slab_len}
use Rattle.slab.proofs.SlabLemmas.{Contains-entries, length-entries}
use Rattle.gpu_alloc_base.specs.Accounts.{HeldChunks}
use Rattle.gpu_alloc_base.specs.Chunks.{Chunk}
use Rattle.gpu_alloc_base.specs.declared.free_list_block.Slot.{Slot}
use Rattle.gpu_alloc_base.specs.declared.region.FreeListRegion.{FreeListRegion}
use Rattle.gpu_alloc_base.proofs.FreeRuns.{region_is_run, run_is_region}
use Rattle.gpu_alloc_base.proofs.Lists.{contains_head}
use Rattle.gpu_alloc_base.proofs.SlabViews.{get_by_key}
use Rattle.gpu_alloc_runs.specs.Inside.{IsBlockPlace, IsStoredInTiles, chunk_of_row, chunk_size_in, chunks_of_rows, fit_space_in, slot_of}
use Rattle.gpu_alloc_runs.specs.Links.{AreNodesKept}
use Rattle.gpu_alloc_runs.specs.Space.{FitSpace, HasNeighbours, IsFreeIn, IsLiveFitSpan, IsLiveSlot, IsRunOrBlock, count_of, neighbours, neighbours_in, size_of}
use Rattle.gpu_alloc_runs.specs.Tiles.{HasRun, tile_in, tile_region}
use Rattle.gpu_alloc_runs.specs.declared.fits.Chunk.{Chunk as Row}
use Rattle.gpu_alloc_runs.specs.declared.tile.Node.{Node}
use Rattle.gpu_alloc_runs.specs.declared.tile.Place.{Place}
use Rattle.gpu_alloc_runs.specs.declared.tile.Tile.{Tile}
use Rattle.gpu_alloc_runs.proofs.Links.{after_there, before_there}
use Rattle.gpu_alloc_runs.proofs.Live.{in_live}
use Rattle.gpu_alloc_runs.proofs.Nodes.{tile_of_node}
use Rattle.gpu_alloc_runs.proofs.Runs.{bytes_held, canonical}
use Rattle.gpu_alloc_runs.proofs.Stored.{placed_is, tile_is_live}
use Rattle.gpu_alloc_runs.proofs.Tiles.{bit, one_tile}

-- a block that comes back has as many neighbours as its tile
module _ {M : Type 0} (object : M → ℕ) (rows : Slab (Row M)) (nodes : Slab Node) (spare : Option ℕ) (stored : IsStoredInTiles object rows nodes spare) (old : FitSpace) (same : fit_space_in (chunks_of_rows object rows) nodes ≡ old)
    (name given offset size : ℕ) (named : name ≡ given) (p : Place) (is : IsBlockPlace object rows nodes name offset size p) (b : Slot) (span : IsLiveFitSpan old given offset size b) where
  abbrev a : Tile
  a = p.node.tile

  block : slot_of (chunks_of_rows object rows) a ≡ b
  block = placed_is object rows nodes spare stored old same name given offset size named p is b span

  start_is : b.offset ≡ a.start
  start_is = sym (ap (λ (s : Slot). s.offset) block)

  end_is : b.offset + b.size ≡ a.end
  end_is = omega (arith, ap (λ (s : Slot). s.offset) block, ap (λ (s : Slot). s.size) block, stored.kept.tiled.nonempty p.key a (tile_of_node nodes p.key p.node is.at))

  size_is : size_of (map.get old.chunks b.chunk) ≡ p.whole
  size_is =
      ap (λ (s : FitSpace). size_of (map.get s.chunks b.chunk)) (sym same)
      ∙ ap (λ (s : Slot). size_of (map.get (chunks_of_rows object rows) s.chunk)) (sym block)
      ∙ bytes_held object rows a.chunk
      ∙ is.whole

  pub neighbours_are : neighbours_in p.whole a.start a.end ≡ neighbours old b
  neighbours_are = λ i. neighbours_in (sym size_is i) (sym start_is i) (sym end_is i)

-- an option that is the only one of a kind, or none where there is none of it
none_is : {X : Type 0} (P : X → Type 0) → ((x : X) → P x → ⊥) → (x : X) → (None ≡ Some x) ↔ P x
none_is P never x = ((λ e. absurd (cc)), (λ has. absurd (never x has)))

some_is : {X : Type 0} (P : X → Type 0) (a : X) → P a → ((x : X) → P x → a ≡ x) → (x : X) → (Some a ≡ Some x) ↔ P x
some_is P a has only x = ((λ e. let is : a ≡ x = cc in subst P is has), (λ other. ap Some (only x other)))

-- What touches a live block.

module _ {M : Type 0} (object : M → ℕ) (rows : Slab (Row M)) (nodes : Slab Node) (kept : AreNodesKept (chunk_size_in rows) nodes) where
  abbrev chunks : HeldChunks
  chunks = chunks_of_rows object rows

  abbrev space : FitSpace
  space = fit_space_in chunks nodes

  -- a tile is a free run or a live block
  tile_is : (k : ℕ) (a : Tile) → tile_in nodes k ≡ Some a → IsRunOrBlock space (tile_region a)
  tile_is k a at = elim (bit a.free) [
    | inl free ↦ inl (region_is_run (IsFreeIn space) (HasRun (tile_in nodes)) (canonical object rows nodes kept) (tile_region a) (k, a, (at, (free, refl))))
    | inr live ↦ inr (record {
      slot = slot_of chunks a;
      live = tile_is_live object rows nodes kept k a (at, live);
      chunk = refl;
      start = refl;
      end = omega (arith, kept.tiled.nonempty k a at);
    })
  ]

  -- and each of them is a tile
  is_tile : (r : FreeListRegion) → IsRunOrBlock space r → (k : ℕ) × (a : Tile) × (tile_in nodes k ≡ Some a) × (tile_region a ≡ r)
  is_tile r (inl run) =
      let h = run_is_region (IsFreeIn space) (HasRun (tile_in nodes)) (canonical object rows nodes kept) r run in
      (h.0, h.1, h.2.0, h.2.1.1)
  is_tile r (inr block) =
      let h = (in_live chunks nodes block.slot).0 block.live in
      let some = kept.tiled.nonempty h.0 h.1 h.2.0 in
      let offset = ap (λ (s : Slot). s.offset) h.3 in
      let chunk = ap (λ (s : Slot). s.chunk) h.3 ∙ block.chunk in
      let start = offset ∙ block.start in
      let end : h.1.end ≡ r.end = omega (arith, some, offset, ap (λ (s : Slot). s.size) h.3, block.end) in
      (h.0, h.1, h.2.0, λ i. record { chunk = chunk i; start = start i; end = end i })

  -- two tiles with a byte in common are one
  same_region : (j k : ℕ) (a b : Tile) → tile_in nodes j ≡ Some a → tile_in nodes k ≡ Some b → a.chunk ≡ b.chunk → a.start < b.end → b.start < a.end → tile_region a ≡ tile_region b
  same_region j k a b at_j at_k chunk lt gt = ap tile_region (one_tile (tile_in nodes) j k a b at_j at_k (kept.tiled.apart j k a b at_j at_k chunk lt gt))

  module _ (x : ℕ) (m : Tile) (at : tile_in nodes x ≡ Some m) where
    left_is : (left : Option FreeListRegion) × ((r : FreeListRegion) → (left ≡ Some r) ↔ (IsRunOrBlock space r × (r.chunk ≡ m.chunk) × (r.end ≡ m.start)))
        × (cond (m.start == 0) 0 1 ≡ count_of left)
    left_is = elim (cases_eq m.start 0) [
      | inl first ↦ (
        None,
        none_is (λ r. IsRunOrBlock space r × (r.chunk ≡ m.chunk) × (r.end ≡ m.start))
            (λ r has. let t = is_tile r has.0 in omega (arith, first, has.2, kept.tiled.nonempty t.0 t.1 t.2, ap (λ (q : FreeListRegion). q.end) t.3)),
        grind (arith, nat_tests, first),
      )
      | inr ne ↦
          let h = before_there (chunk_size_in rows) (tile_in nodes) kept.tiled x m at (omega (arith, ne)) in (
            Some (tile_region h.1),
            some_is (λ r. IsRunOrBlock space r × (r.chunk ≡ m.chunk) × (r.end ≡ m.start)) (tile_region h.1) (tile_is h.0 h.1 h.2, h.3.chunk, h.3.meet) (λ r has.
                let t = is_tile r has.0 in
                let end = ap (λ (q : FreeListRegion). q.end) t.3 in
                let some = kept.tiled.nonempty h.0 h.1 h.2 in
                let some_t = kept.tiled.nonempty t.0 t.1 t.2 in
                same_region h.0 t.0 h.1 t.1 h.2 t.2 (h.3.chunk ∙ sym has.1 ∙ sym (ap (λ (q : FreeListRegion). q.chunk) t.3))
                (omega (arith, h.3.meet, has.2, end, some)) (omega (arith, h.3.meet, has.2, end, some_t)) ∙ t.3),
            grind (arith, nat_tests, ne),
          )
    ]

    right_is : (right : Option FreeListRegion) × ((r : FreeListRegion) → (right ≡ Some r) ↔ (IsRunOrBlock space r × (r.chunk ≡ m.chunk) × (r.start ≡ m.end)))
        × (cond (m.end == chunk_size_in rows m.chunk) 0 1 ≡ count_of right)
    right_is = elim (cases_eq m.end (chunk_size_in rows m.chunk)) [
      | inl last ↦ (
        None,
        none_is (λ r. IsRunOrBlock space r × (r.chunk ≡ m.chunk) × (r.start ≡ m.end)) (λ r has.
            let t = is_tile r has.0 in
            let chunk : t.1.chunk ≡ m.chunk = ap (λ (q : FreeListRegion). q.chunk) t.3 ∙ has.1 in
            let inside : t.1.end ≤ chunk_size_in rows m.chunk = subst (λ n. t.1.end ≤ chunk_size_in rows n) chunk (kept.tiled.inside t.0 t.1 t.2) in
            omega (arith, last, has.2, inside, kept.tiled.nonempty t.0 t.1 t.2, ap (λ (q : FreeListRegion). q.start) t.3)),
        grind (arith, nat_tests, last),
      )
      | inr ne ↦
          let h = after_there (chunk_size_in rows) (tile_in nodes) kept.tiled x m at (omega (arith, ne, kept.tiled.inside x m at)) in (
            Some (tile_region h.1),
            some_is (λ r. IsRunOrBlock space r × (r.chunk ≡ m.chunk) × (r.start ≡ m.end)) (tile_region h.1) (tile_is h.0 h.1 h.2, sym h.3.chunk, sym h.3.meet) (λ r has.
                let t = is_tile r has.0 in
                let start = ap (λ (q : FreeListRegion). q.start) t.3 in
                same_region h.0 t.0 h.1 t.1 h.2 t.2 (sym h.3.chunk ∙ sym has.1 ∙ sym (ap (λ (q : FreeListRegion). q.chunk) t.3))
                (omega (arith, h.3.meet, has.2, start, kept.tiled.nonempty t.0 t.1 t.2)) (omega (arith, h.3.meet, has.2, start, kept.tiled.nonempty h.0 h.1 h.2)) ∙ t.3),
            grind (arith, nat_tests, ne),
          )
    ]

    tile_neighbours : HasNeighbours space (slot_of chunks m)
    tile_neighbours =
        let end : m.start + (m.end - m.start) ≡ m.end = omega (arith, kept.tiled.nonempty x m at) in
        let whole : size_of (map.get chunks m.chunk) ≡ chunk_size_in rows m.chunk = bytes_held object rows m.chunk in
        record {
          left = left_is.0;
          right = right_is.0;
          ends = left_is.1;
          starts = λ r. (
            (λ e. let has = (right_is.1 r).0 e in (has.0, has.1, has.2 ∙ sym end)),
            (λ has. (right_is.1 r).1 (has.0, has.1, has.2 ∙ end)),
          );
          count = (λ i. neighbours_in (whole i) m.start (end i)) ∙ (λ i. left_is.2 i + right_is.2 i);
        }

  -- each live block has as many as `neighbours` counts
  pub touched : (slot : Slot) → IsLiveSlot space slot → HasNeighbours space slot
  touched slot live =
      let h = (in_live chunks nodes slot).0 live in
      subst (HasNeighbours space) h.3 (tile_neighbours h.0 h.1 h.2.0)

-- a store has no chunk exactly where its slab has no row
module _ {M : Type 0} (object : M → ℕ) (rows : Slab (Row M)) where
  unlisted : (es : List (ℕ × Row M)) → length es ≡ 0 → es ≡ []
  unlisted [] none = refl
  unlisted (e ∷ es) none = absurd (omega (arith, none))

  pub no_chunk : slab_len rows ≡ 0 → map.len (chunks_of_rows object rows) ≡ 0
  no_chunk none =
      ap (λ (es : List (ℕ × Row M)). map.len (map.from_entries {R = nat_cmp} (list.map (λ (e : ℕ × Row M). (e.0, chunk_of_row object e.1)) es))) (unlisted (entries rows) (length-entries rows ∙ none))
      ∙ map.len-empty nat_cmp Chunk

  chunkless : map.len (chunks_of_rows object rows) ≡ 0 → (key : ℕ) → map.get (chunks_of_rows object rows) key ≡ None
  chunkless none key =
      map.get-entries (chunks_of_rows object rows) key
      ∙ ap (map.find nat_cmp key) (empty (map.entries (chunks_of_rows object rows)) (sym (map.len-entries (chunks_of_rows object rows)) ∙ none))
    where
      empty : (es : List (ℕ × Chunk)) → length es ≡ 0 → es ≡ []
      empty [] few = refl
      empty (e ∷ es) few = absurd (omega (arith, few))

  pub no_row : map.len (chunks_of_rows object rows) ≡ 0 → slab_len rows ≡ 0
  no_row none = sym (length-entries rows) ∙ cases (entries rows) refl
    where
      cases : (es : List (ℕ × Row M)) → entries rows ≡ es → length es ≡ 0
      cases [] is = refl
      cases (e ∷ es) is =
          let there : get rows e.0 ≡ Some e.1 = (Contains-entries rows e.0 e.1).0 (subst (λ xs. list.Contains xs e) (sym is) (contains_head e es)) in
          let held = get_by_key (chunk_of_row object) rows e.0 ∙ ap (option_map (chunk_of_row object)) there in
          let never : None ≡ Some (chunk_of_row object e.1) = sym (chunkless none e.0) ∙ held in
          absurd (cc)
