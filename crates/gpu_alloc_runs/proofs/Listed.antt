-- The lists of live blocks and of free ranges.
use Rattle.std.proofs.Common.{◌≡◌, ◌≢◌, ◌↔◌, inl, inr, ℕ, true, false, cond, List, [], ◌∷◌, map as map_list, Contains, Some, None, refl, sym, ◌∙◌, ap, subst, arith}
use Rattle.std.specs.FinMap as map
use Rattle.std.specs.FinSet as set
use Rattle.std.specs.List.{IsDistinct}
use Rattle.std.specs.Ordering.{eq_by_cmp}
use Rattle.slab.specs.Slab.{Slab, entries}
use Rattle.slab.proofs.SlabLemmas.{Contains-entries}
use Rattle.gpu_alloc_types.specs.declared.types.FreeRange.{FreeRange}
use Rattle.gpu_alloc_base.specs.Accounts.{HeldChunks}
use Rattle.gpu_alloc_base.specs.Chunks.{Chunk, object_in}
use Rattle.gpu_alloc_base.specs.RangeOrder.{same_start}
use Rattle.gpu_alloc_base.specs.SlabViews.{HasOneKeyEach}
use Rattle.gpu_alloc_base.specs.Slots.{slot_cmp}
use Rattle.gpu_alloc_base.specs.declared.free_list_block.Slot.{Slot}
use Rattle.gpu_alloc_base.specs.declared.region.FreeListRegion.{FreeListRegion}
use Rattle.gpu_alloc_base.proofs.FreeRuns.{region_is_run, run_is_region}
use Rattle.gpu_alloc_base.proofs.ListedRanges.{told_object}
use Rattle.gpu_alloc_base.proofs.RangeOrder.{starts_apart}
use Rattle.gpu_alloc_base.proofs.SlabViews.{found_by_key}
use Rattle.gpu_alloc_base.proofs.Slots.{slot_test}
use Rattle.gpu_alloc_runs.specs.Inside.{chunk_of_row, chunk_size_in, chunks_of_rows, fit_space_in, free_range, leaf_of_slot, live_row, live_slot, live_slots_in, made_of, slot_of}
use Rattle.gpu_alloc_runs.specs.Links.{AreNodesKept}
use Rattle.gpu_alloc_runs.specs.Space.{IsFitRunOf, IsFreeIn}
use Rattle.gpu_alloc_runs.specs.Tiles.{HasRun, tile_in, tile_region}
use Rattle.gpu_alloc_runs.specs.declared.fits.Chunk.{Chunk as Row}
use Rattle.gpu_alloc_runs.specs.declared.tile.Node.{Node}
use Rattle.gpu_alloc_runs.specs.declared.tile.Tile.{Tile}
use Rattle.gpu_alloc_runs.proofs.Live.{in_filtered, one_key, slot_of_live, to_filtered}
use Rattle.gpu_alloc_runs.proofs.Made.{made_once}
use Rattle.gpu_alloc_runs.proofs.Nodes.{node_of_tile, tile_of_node}
use Rattle.gpu_alloc_runs.proofs.Runs.{canonical, held_chunk}
use Rattle.gpu_alloc_runs.proofs.Tiles.{bit}

-- the rows of live tiles are those of the blocks that they are
pub rows_made : (chunks : HeldChunks) (es : List (ℕ × Node)) → made_of (live_row chunks) es ≡ map_list leaf_of_slot (made_of (live_slot chunks) es)
rows_made chunks [] = refl
rows_made chunks (e ∷ es) = elim (bit e.1.tile.free) [
  | inl free ↦ rw free (rows_made chunks es)
  | inr live ↦ rw live (ap (λ rest. leaf_of_slot (slot_of chunks e.1.tile) ∷ rest) (rows_made chunks es))
]

module _ {M : Type 0} (object : M → ℕ) (rows : Slab (Row M)) (nodes : Slab Node) (kept : AreNodesKept (chunk_size_in rows) nodes) where
  abbrev chunks : HeldChunks
  chunks = chunks_of_rows object rows

  -- what is made as a block is one of a live tile
  live_made : (t : Tile) (slot : Slot) → live_slot chunks t ≡ Some slot → (t.free ≡ false) × (slot_of chunks t ≡ slot)
  live_made t slot made = elim (bit t.free) [
    | inl free ↦ absurd (let none : None ≡ Some slot = sym (ap (λ b. cond b None (Some (slot_of chunks t))) free) ∙ made in cc)
    | inr live ↦ (live, (let e : Some (slot_of chunks t) ≡ Some slot = sym (slot_of_live chunks t live) ∙ made in cc))
  ]

  pub live_once : IsDistinct (eq_by_cmp slot_cmp) (made_of (live_slot chunks) (entries nodes))
  live_once = made_once (live_slot chunks) nodes [] (eq_by_cmp slot_cmp) (λ i k a b y z at_i at_k ne is_y is_z.
      let m = live_made a.tile y is_y in
      let n = live_made b.tile z is_z in
      differs y z (λ same. ne (one_key chunks nodes nodes (chunk_size_in rows) kept.tiled i k a.tile b.tile (tile_of_node nodes i a at_i, m.0) (tile_of_node nodes k b at_k, n.0) (m.1 ∙ same ∙ sym n.1))))
    where
      differs : (y z : Slot) → y ≢ z → eq_by_cmp slot_cmp y z ≡ false
      differs y z ne = elim (bit (eq_by_cmp slot_cmp y z)) [
        | inl yes' ↦ absurd (ne ((slot_test y z).0 yes'))
        | inr no' ↦ no'
      ]

  pub live_all : set.from_list (made_of (live_slot chunks) (entries nodes)) ≡ live_slots_in chunks nodes
  unfolding live_slots_in
  live_all = refl

  -- A free tile as a range of its object.

  free_made : (t : Tile) (r : FreeRange) → free_range chunks t ≡ Some r → (t.free ≡ true) × (record { object = object_in (map.get chunks t.chunk); start = t.start; end = t.end } ≡ r)
  free_made t r made = elim (bit t.free) [
    | inr live ↦ absurd (let none : None ≡ Some r = sym (ap (λ b. cond b (Some (record { object = object_in (map.get chunks t.chunk); start = t.start; end = t.end })) None) live) ∙ made in cc)
    | inl free ↦ (free, (let e : Some (record { object = object_in (map.get chunks t.chunk); start = t.start; end = t.end }) ≡ Some r = sym (ap (λ b. cond b (Some (record { object = object_in (map.get chunks t.chunk); start = t.start; end = t.end })) None) free) ∙ made in cc))
  ]

  free_given : (t : Tile) → t.free ≡ true → free_range chunks t ≡ Some (record { object = object_in (map.get chunks t.chunk); start = t.start; end = t.end })
  free_given t free = ap (λ b. cond b (Some (record { object = object_in (map.get chunks t.chunk); start = t.start; end = t.end })) None) free

  -- the chunk of a tile
  of_held : (k : ℕ) (a : Tile) → tile_in nodes k ≡ Some a → (c : Chunk) × (map.get chunks a.chunk ≡ Some c)
  of_held k a at = let h = held_chunk object rows a.chunk (let some = kept.tiled.nonempty k a at in let inside = kept.tiled.inside k a at in omega (arith, some, inside)) in (h.0, h.1)

  module _ (once : HasOneKeyEach (λ (row : Row M). object row.memory) rows) where
    one_chunk : (i k : ℕ) (c d : Chunk) → map.get chunks i ≡ Some c → map.get chunks k ≡ Some d → c.object ≡ d.object → i ≡ k
    one_chunk i k c d is_c is_d same =
        let r = found_by_key (chunk_of_row object) rows i c is_c in
        let q = found_by_key (chunk_of_row object) rows k d is_d in
        once i k r.0 q.0 r.1 q.1 (ap (λ (x : Chunk). x.object) r.2 ∙ same ∙ sym (ap (λ (x : Chunk). x.object) q.2))

    pub free_once : IsDistinct same_start (made_of (free_range chunks) (entries nodes))
    free_once = made_once (free_range chunks) nodes [] same_start (λ i k a b y z at_i at_k ne is_y is_z.
        let m = free_made a.tile y is_y in
        let n = free_made b.tile z is_z in
        let at_a = tile_of_node nodes i a at_i in
        let at_b = tile_of_node nodes k b at_k in
        starts_apart y z (λ same_object start.
        let c = of_held i a.tile at_a in
        let d = of_held k b.tile at_b in
        let named = sym (told_object (map.get chunks a.tile.chunk) c.0 c.1) ∙ ap (λ (r : FreeRange). r.object) m.1 ∙ same_object ∙ sym (ap (λ (r : FreeRange). r.object) n.1) ∙ told_object (map.get chunks b.tile.chunk) d.0 d.1 in
        let chunk = one_chunk a.tile.chunk b.tile.chunk c.0 d.0 c.1 d.1 named in
        let from = ap (λ (r : FreeRange). r.start) m.1 ∙ start ∙ sym (ap (λ (r : FreeRange). r.start) n.1) in
        ne (kept.tiled.apart i k a.tile b.tile at_a at_b chunk (omega (arith, from, kept.tiled.nonempty k b.tile at_b)) (omega (arith, from, kept.tiled.nonempty i a.tile at_a)))))

  -- they are the free runs
  pub free_all : (r : FreeRange) → Contains (made_of (free_range chunks) (entries nodes)) r ↔ IsFitRunOf (fit_space_in chunks nodes) r
  free_all r = (
    (λ has.
        let f = in_filtered (λ (e : ℕ × Node). free_range chunks e.1.tile) (entries nodes) r has in
        let at = tile_of_node nodes f.0.0 f.0.1 ((Contains-entries nodes f.0.0 f.0.1).0 f.1) in
        let m = free_made f.0.1.tile r f.2 in
        let c = of_held f.0.0 f.0.1.tile at in
        let run = region_is_run (IsFreeIn (fit_space_in chunks nodes)) (HasRun (tile_in nodes)) (canonical object rows nodes kept) (tile_region f.0.1.tile) (f.0.0, f.0.1.tile, (at, (m.0, refl))) in
        subst (IsFitRunOf (fit_space_in chunks nodes)) m.1 (record { key = f.0.1.tile.chunk; chunk = c.0; held = c.1; object = sym (told_object (map.get chunks f.0.1.tile.chunk) c.0 c.1); run = run })),
    (λ run.
        let h = run_is_region (IsFreeIn (fit_space_in chunks nodes)) (HasRun (tile_in nodes)) (canonical object rows nodes kept) (record { chunk = run.key; start = r.start; end = r.end }) run.run in
        let n = node_of_tile nodes h.0 h.1 h.2.0 in
        let free : n.0.tile.free ≡ true = ap (λ (t : Tile). t.free) n.2 ∙ h.2.1.0 in
        let bytes = ap tile_region n.2 ∙ h.2.1.1 in
        let chunk = ap (λ (q : FreeListRegion). q.chunk) bytes in
        let named : object_in (map.get chunks n.0.tile.chunk) ≡ r.object = ap (λ k. object_in (map.get chunks k)) chunk ∙ told_object (map.get chunks run.key) run.chunk run.held ∙ run.object in
        let is : record { object = object_in (map.get chunks n.0.tile.chunk); start = n.0.tile.start; end = n.0.tile.end } ≡ r =
        (λ i. record { object = named i; start = (ap (λ (q : FreeListRegion). q.start) bytes) i; end = (ap (λ (q : FreeListRegion). q.end) bytes) i }) in
        to_filtered (λ (e : ℕ × Node). free_range chunks e.1.tile) (entries nodes) (h.0, n.0) r ((Contains-entries nodes h.0 n.0).1 n.1) (free_given n.0.tile free ∙ ap Some is)),
  )
