-- A chunk comes, all of it free, and goes when all of it is.
use Rattle.std.proofs.Common.{◌≡◌, ◌≢◌, inl, inr, ℕ, ◌<◌, ◌≤◌, true, Option, Some, None, option_map, refl, sym, ◌∙◌, ap, subst, arith}
use Rattle.std.proofs.lemmas.Bool.{cases_eq}
use Rattle.std.specs.FinMap as map
use Rattle.slab.specs.Slab.{Slab, Updates, get}
use Rattle.gpu_alloc_base.specs.Chunks.{object_in}
use Rattle.gpu_alloc_base.proofs.ListedRanges.{told_object}
use Rattle.gpu_alloc_base.proofs.SlabViews.{get_by_key}
use Rattle.gpu_alloc_runs.specs.Inside.{chunk_of_row, chunk_size_in, chunks_of_rows, IsWholeTile, row_size}
use Rattle.gpu_alloc_runs.specs.Links.{AreNodesKept, after_in, before_in}
use Rattle.gpu_alloc_runs.specs.Tiles.{AreNeighbours, IsTiled, KeepsLive, Sets, tile_in}
use Rattle.gpu_alloc_runs.specs.declared.fits.Chunk.{Chunk as Row}
use Rattle.gpu_alloc_runs.specs.declared.tile.Node.{Node}
use Rattle.gpu_alloc_runs.specs.declared.tile.Tile.{Tile}
use Rattle.gpu_alloc_runs.proofs.Links.{fewer_linked}
use Rattle.gpu_alloc_runs.proofs.Nodes.{other_after, other_before, other_tile, puts, tile_of}
use Rattle.gpu_alloc_runs.proofs.Tiles.{came, not_both, one_tile}

-- one chunk has another size, and the others have theirs
pub record Resizes (old new : ℕ → ℕ) (chunk size : ℕ) : Type 0 where
  pub changed : new chunk ≡ size
  pub others : (k : ℕ) → k ≢ chunk → new k ≡ old k

pub resized : {M : Type 0} (old new : Slab (Row M)) (chunk size : ℕ) (o : Option (Row M)) → Updates old new chunk o → row_size o ≡ size → Resizes (chunk_size_in old) (chunk_size_in new) chunk size
resized old new chunk size o u is = record { changed = ap row_size u.changed ∙ is; others = λ k ne. ap row_size (u.others k ne) }

-- the object of a chunk that is held
pub object_of_row : {M : Type 0} (object : M → ℕ) (rows : Slab (Row M)) (k : ℕ) (row : Row M) → get rows k ≡ Some row → object_in (map.get (chunks_of_rows object rows) k) ≡ object row.memory
object_of_row object rows k row is = told_object (map.get (chunks_of_rows object rows) k) (chunk_of_row object row) (get_by_key (chunk_of_row object) rows k ∙ ap (option_map (chunk_of_row object)) is)

-- A tile comes that is all of a new chunk.

module _ (old new : ℕ → ℕ) (chunk size : ℕ) (s0 s1 : Slab Node) (x : ℕ) (n : Node) (kept : AreNodesKept old s0) (unheld : old chunk ≡ 0) (some : 0 < size) (resizes : Resizes old new chunk size)
    (vacant : get s0 x ≡ None) (comes : Updates s0 s1 x (Some n)) (tile : n.tile ≡ record { chunk = chunk; start = 0; end = size; free = true }) where
  abbrev whole_tile : Tile
  whole_tile = record { chunk = chunk; start = 0; end = size; free = true }

  sets : Sets (tile_in s0) (tile_in s1) x (Some whole_tile)
  sets = subst (λ t. Sets (tile_in s0) (tile_in s1) x (Some t)) tile (puts s0 s1 x n comes)

  -- no tile is of the new chunk yet
  elsewhere : (k : ℕ) (c : Tile) → tile_in s0 k ≡ Some c → c.chunk ≢ chunk
  elsewhere k c is here =
      let most = subst (λ i. c.end ≤ old i) here (kept.tiled.inside k c is) in
      omega (arith, most, unheld, kept.tiled.nonempty k c is)

  other_key : (k : ℕ) (c : Tile) → tile_in s0 k ≡ Some c → k ≢ x
  other_key k c is same = let none : None ≡ Some c = sym (ap tile_of vacant) ∙ sym (ap (tile_in s0) same) ∙ is in cc

  begun_tiled : IsTiled new (tile_in s1)
  begun_tiled = record {
    nonempty = λ k c is. elim (came (tile_in s0) (tile_in s1) x whole_tile sets k c is) [
      | inl a ↦ omega (arith, some, ap (λ (t : Tile). t.start) a.1, ap (λ (t : Tile). t.end) a.1)
      | inr a ↦ kept.tiled.nonempty k c a.1
    ];
    inside = λ k c is. elim (came (tile_in s0) (tile_in s1) x whole_tile sets k c is) [
      | inl a ↦ let e : new c.chunk ≡ size = ap (λ (t : Tile). new t.chunk) a.1 ∙ resizes.changed in omega (arith, e, ap (λ (t : Tile). t.end) a.1)
      | inr a ↦ let e = resizes.others c.chunk (elsewhere k c a.1) in omega (arith, e, kept.tiled.inside k c a.1)
    ];
    apart = λ j k c d is_c is_d same lt gt. elim (came (tile_in s0) (tile_in s1) x whole_tile sets j c is_c) [
      | inl a ↦ elim (came (tile_in s0) (tile_in s1) x whole_tile sets k d is_d) [
        | inl b ↦ a.0 ∙ sym b.0
        | inr b ↦ absurd (elsewhere k d b.1 (sym same ∙ ap (λ (t : Tile). t.chunk) a.1))
      ]
      | inr a ↦ elim (came (tile_in s0) (tile_in s1) x whole_tile sets k d is_d) [
        | inl b ↦ absurd (elsewhere j c a.1 (same ∙ ap (λ (t : Tile). t.chunk) b.1))
        | inr b ↦ kept.tiled.apart j k c d a.1 b.1 same lt gt
      ]
    ];
    covers = λ of at lt. elim (cases_eq of chunk) [
      | inl here ↦ let e : new of ≡ size = ap new here ∙ resizes.changed in (x, whole_tile, (sets.changed, (sym here, (omega arith, omega (arith, lt, e)))))
      | inr ne ↦
          let e = resizes.others of ne in
          let c = kept.tiled.covers of at (omega (arith, lt, e)) in
          (c.0, c.1, (sets.others c.0 (other_key c.0 c.1 c.2.0) ∙ c.2.0, c.2.1))
    ];
  }

  -- it touches no tile
  alone : (j k : ℕ) (c d : Tile) → tile_in s1 j ≡ Some c → tile_in s1 k ≡ Some d → AreNeighbours c d → ((j ≢ x) × (tile_in s0 j ≡ Some c)) × ((k ≢ x) × (tile_in s0 k ≡ Some d))
  alone j k c d is_c is_d near = elim (came (tile_in s0) (tile_in s1) x whole_tile sets j c is_c) [
    | inl a ↦ elim (came (tile_in s0) (tile_in s1) x whole_tile sets k d is_d) [
      | inl b ↦ absurd (omega (arith, near.meet, some, ap (λ (t : Tile). t.end) a.1, ap (λ (t : Tile). t.start) b.1))
      | inr b ↦ absurd (elsewhere k d b.1 (sym near.chunk ∙ ap (λ (t : Tile). t.chunk) a.1))
    ]
    | inr a ↦ elim (came (tile_in s0) (tile_in s1) x whole_tile sets k d is_d) [
      | inl b ↦ absurd (elsewhere j c a.1 (near.chunk ∙ ap (λ (t : Tile). t.chunk) b.1))
      | inr b ↦ (a, b)
    ]
  ]

  pub begun : AreNodesKept new s1
  begun = record {
    tiled = begun_tiled;
    calm = λ j k c d is_c is_d both.
        let w = alone j k c d is_c is_d (record { chunk = both.chunk; meet = both.meet }) in
        kept.calm j k c d w.0.1 w.1.1 both;
    linked = fewer_linked (tile_in s0) (tile_in s1) (before_in s0) (after_in s0) (before_in s1) (after_in s1) kept.linked (λ j k c d is_c is_d near.
        let w = alone j k c d is_c is_d near in
        (w.0.1, w.1.1, other_after s0 s1 x (Some n) comes j w.0.0, other_before s0 s1 x (Some n) comes k w.1.0));
  }

  pub begun_lives : KeepsLive (tile_in s0) (tile_in s1)
  begun_lives = record {
    stays = λ k c h. (sets.others k (other_key k c h.0) ∙ h.0, h.1);
    was = λ k c h. elim (came (tile_in s0) (tile_in s1) x whole_tile sets k c h.0) [
      | inl a ↦ absurd (not_both whole_tile c (sym a.1) refl h.1)
      | inr a ↦ (a.1, h.1)
    ];
  }

  pub begun_keeps : (k : ℕ) (c : Tile) → tile_in s0 k ≡ Some c → tile_in s1 k ≡ Some c
  begun_keeps k c is = sets.others k (other_key k c is) ∙ is

  pub begun_else : (k : ℕ) (c : Tile) → tile_in s0 k ≡ Some c → c.chunk ≢ chunk
  begun_else k c is = elsewhere k c is

-- A wholly free chunk is removed, with its tile.
module _ (old new : ℕ → ℕ) (s0 s1 : Slab Node) (x chunk : ℕ) (kept : AreNodesKept old s0) (whole : IsWholeTile old (tile_in s0) x chunk) (resizes : Resizes old new chunk 0) (goes : Updates s0 s1 x None) where
  was : (k : ℕ) (c : Tile) → tile_in s1 k ≡ Some c → (k ≢ x) × (tile_in s0 k ≡ Some c)
  was k c is = elim (cases_eq k x) [
    | inl here ↦ absurd (let none : None ≡ Some c = sym (ap tile_of goes.changed) ∙ sym (ap (tile_in s1) here) ∙ is in cc)
    | inr ne ↦ (ne, sym (other_tile s0 s1 x None goes k ne) ∙ is)
  ]

  other_chunk : (k : ℕ) (c : Tile) → tile_in s1 k ≡ Some c → c.chunk ≢ chunk
  other_chunk k c is here =
      let w = was k c is in
      let most = subst (λ i. c.end ≤ old i) here (kept.tiled.inside k c w.1) in
      let some = kept.tiled.nonempty k c w.1 in
      w.0 (kept.tiled.apart k x c whole.tile w.1 whole.at (here ∙ sym whole.chunk_is) (omega (arith, some, most, whole.end)) (omega (arith, some, whole.start)))

  -- tiles of other chunks have other keys
  other_place : (k : ℕ) (c : Tile) → tile_in s0 k ≡ Some c → c.chunk ≢ chunk → k ≢ x
  other_place k c is ne s = ne (ap (λ (t : Tile). t.chunk) (one_tile (tile_in s0) k x c whole.tile is whole.at s) ∙ whole.chunk_is)

  pub ended : AreNodesKept new s1
  ended = record {
    tiled = record {
      nonempty = λ k c is. kept.tiled.nonempty k c (was k c is).1;
      inside = λ k c is. let e = resizes.others c.chunk (other_chunk k c is) in omega (arith, e, kept.tiled.inside k c (was k c is).1);
      apart = λ j k c d is_c is_d same lt gt. kept.tiled.apart j k c d (was j c is_c).1 (was k d is_d).1 same lt gt;
      covers = λ of byte lt. elim (cases_eq of chunk) [
        | inl here ↦ let e : new of ≡ 0 = ap new here ∙ resizes.changed in absurd (omega (arith, lt, e))
        | inr ne ↦
            let e = resizes.others of ne in
            let c = kept.tiled.covers of byte (omega (arith, lt, e)) in
            (c.0, c.1, (other_tile s0 s1 x None goes c.0 (other_place c.0 c.1 c.2.0 (λ s. ne (sym c.2.1.0 ∙ s))) ∙ c.2.0, c.2.1))
      ];
    };
    calm = λ j k c d is_c is_d both. kept.calm j k c d (was j c is_c).1 (was k d is_d).1 both;
    linked = fewer_linked (tile_in s0) (tile_in s1) (before_in s0) (after_in s0) (before_in s1) (after_in s1) kept.linked (λ j k c d is_c is_d near.
        let w = was j c is_c in
        let v = was k d is_d in
        (w.1, v.1, other_after s0 s1 x None goes j w.0, other_before s0 s1 x None goes k v.0));
  }
