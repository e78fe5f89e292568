-- The live tiles as the set of live blocks.
use Rattle.std.proofs.Common.{◌≡◌, ◌≢◌, inl, inr, ℕ, ◌-◌, true, false, cond, List, [], ◌∷◌, Contains, Option, Some, None, filter_map, refl, sym, ◌∙◌, ap, arith}
use Rattle.std.proofs.lemmas.Bool.Decides.{same_from_decides}
use Rattle.std.proofs.lemmas.Bool.{cases_eq}
use Rattle.std.specs.Bool.{Decides}
use Rattle.std.specs.FinMap as map
use Rattle.std.specs.FinSet as set
use Rattle.slab.specs.Slab.{Slab, entries}
use Rattle.slab.proofs.SlabLemmas.{Contains-entries}
use Rattle.gpu_alloc_base.specs.Accounts.{HeldChunks}
use Rattle.gpu_alloc_base.specs.Chunks.{object_in}
use Rattle.gpu_alloc_base.specs.Slots.{slot_cmp}
use Rattle.gpu_alloc_base.specs.declared.free_list_block.Slot.{Slot}
use Rattle.gpu_alloc_base.proofs.Lists.{contains_cases, contains_head, contains_later, contains_none}
use Rattle.gpu_alloc_base.proofs.Slots.{in_slots, slot_exact, slot_inserted, slot_removed, slot_total}
use Rattle.gpu_alloc_runs.specs.Inside.{live_slot, live_slots_in, made_of, slot_of}
use Rattle.gpu_alloc_runs.specs.Tiles.{HasNoLiveTile, IsLiveAt, IsTiled, KeepsLive, KeepsOthers, PutsTileBack, tile_in}
use Rattle.gpu_alloc_runs.specs.declared.tile.Node.{Node}
use Rattle.gpu_alloc_runs.specs.declared.tile.Tile.{Tile}
use Rattle.gpu_alloc_runs.proofs.Nodes.{node_of_tile, tile_of_node}
use Rattle.gpu_alloc_runs.proofs.Tiles.{bit, one_tile}

-- What a filter lets through.

module _ {X Y : Type 0} (h : X → Option Y) where
  pub in_filtered : (xs : List X) (y : Y) → Contains (filter_map h xs) y → (x : X) × Contains xs x × (h x ≡ Some y)
  in_filtered [] y has = absurd (contains_none y has)
  in_filtered (x ∷ xs) y has = cases (λ rest. let found = in_filtered xs y rest in (found.0, contains_later x found.0 xs found.1, found.2)) (h x) refl has
    where
      cases : (Contains (filter_map h xs) y → (z : X) × Contains (x ∷ xs) z × (h z ≡ Some y)) → (o : Option Y) → h x ≡ o → Contains (filter_map h (x ∷ xs)) y → (z : X) × Contains (x ∷ xs) z × (h z ≡ Some y)
      cases later None e has' = later (rw e at has')
      cases later (Some z) e has' = elim (contains_cases z y (filter_map h xs) (rw e at has')) [
        | inl is ↦ (x, contains_head x xs, e ∙ ap Some (sym is))
        | inr rest ↦ later rest
      ]

  pub to_filtered : (xs : List X) (x : X) (y : Y) → Contains xs x → h x ≡ Some y → Contains (filter_map h xs) y
  to_filtered [] x y has is = absurd (contains_none x has)
  to_filtered (z ∷ xs) x y has is = elim (contains_cases z x xs has) [
    | inl same ↦ rw (ap h (sym same) ∙ is) (contains_head y (filter_map h xs))
    | inr later ↦ passed (h z) refl (to_filtered xs x y later is)
  ]
    where
      passed : (o : Option Y) → h z ≡ o → Contains (filter_map h xs) y → Contains (filter_map h (z ∷ xs)) y
      passed None e rest = rw e rest
      passed (Some w) e rest = rw e (contains_later w y (filter_map h xs) rest)

-- A block is live where a live tile is it.

abbrev pub IsLiveAs : HeldChunks → Slab Node → Slot → Type 0
IsLiveAs chunks nodes slot = (k : ℕ) × (a : Tile) × IsLiveAt (tile_in nodes) k a × (slot_of chunks a ≡ slot)

pub slot_of_live : (chunks : HeldChunks) (t : Tile) → t.free ≡ false → live_slot chunks t ≡ Some (slot_of chunks t)
slot_of_live chunks t live = ap (λ b. cond b None (Some (slot_of chunks t))) live

pub in_live : (chunks : HeldChunks) (nodes : Slab Node) (slot : Slot) → Decides (set.contains (live_slots_in chunks nodes) slot) (IsLiveAs chunks nodes slot)
unfolding live_slots_in
in_live chunks nodes slot =
    let d = in_slots (made_of (live_slot chunks) (entries nodes)) slot in (
      λ t.
          let f = in_filtered (λ (e : ℕ × Node). live_slot chunks e.1.tile) (entries nodes) slot (d.0 t) in
          let at = tile_of_node nodes f.0.0 f.0.1 ((Contains-entries nodes f.0.0 f.0.1).0 f.1) in
          elim (bit f.0.1.tile.free) [
            | inl free ↦ absurd (let none : None ≡ Some slot = sym (ap (λ b. cond b None (Some (slot_of chunks f.0.1.tile))) free) ∙ f.2 in cc)
            | inr live ↦ (f.0.0, f.0.1.tile, (at, live), (let e : Some (slot_of chunks f.0.1.tile) ≡ Some slot = sym (slot_of_live chunks f.0.1.tile live) ∙ f.2 in cc))
          ],
      λ h.
          let n = node_of_tile nodes h.0 h.1 h.2.0 in
          let live : n.0.tile.free ≡ false = ap (λ (t : Tile). t.free) n.2 ∙ h.2.1 in
          d.1 (to_filtered (λ (e : ℕ × Node). live_slot chunks e.1.tile) (entries nodes) (h.0, n.0) slot ((Contains-entries nodes h.0 n.0).1 n.1)
          (slot_of_live chunks n.0.tile live ∙ ap (λ (t : Tile). Some (slot_of chunks t)) n.2 ∙ ap Some h.3)),
    )

-- two sets with the same members are equal
same_slots : (s t : set.FinSet slot_cmp) → ((q : Slot) → set.contains s q ≡ true → set.contains t q ≡ true) → ((q : Slot) → set.contains t q ≡ true → set.contains s q ≡ true) → s ≡ t
same_slots s t to from = set.same_set slot_total slot_exact s t (λ q. same_from_decides _ _ ((λ h. to q h), (λ h. from q h)) ((λ h. h), (λ h. h)))

-- Live blocks as tiles change.

module _ (chunks : HeldChunks) (old new : Slab Node) where
  pub live_same : KeepsLive (tile_in old) (tile_in new) → live_slots_in chunks new ≡ live_slots_in chunks old
  live_same keeps = same_slots _ _
      (λ q t. let h = (in_live chunks new q).0 t in (in_live chunks old q).1 (h.0, h.1, keeps.was h.0 h.1 h.2, h.3))
      (λ q t. let h = (in_live chunks old q).0 t in (in_live chunks new q).1 (h.0, h.1, keeps.stays h.0 h.1 h.2, h.3))

  -- one more tile is live
  pub live_more : (x : ℕ) (b : Tile) → HasNoLiveTile (tile_in old) x → IsLiveAt (tile_in new) x b → KeepsOthers (tile_in old) (tile_in new) x
      → live_slots_in chunks new ≡ set.insert (live_slots_in chunks old) (slot_of chunks b)
  live_more x b unused live others = same_slots _ _
      (λ q t.
      let h = (in_live chunks new q).0 t in
      elim (cases_eq h.0 x) [
        | inl here ↦ (slot_inserted (live_slots_in chunks old) (slot_of chunks b) q).1 (inl (sym h.3 ∙ ap (slot_of chunks) (one_tile (tile_in new) h.0 x h.1 b h.2.0 live.0 here)))
        | inr ne ↦ (slot_inserted (live_slots_in chunks old) (slot_of chunks b) q).1 (inr ((in_live chunks old q).1 (h.0, h.1, others.was h.0 h.1 ne h.2, h.3)))
      ])
      (λ q t. elim ((slot_inserted (live_slots_in chunks old) (slot_of chunks b) q).0 t) [
        | inl is ↦ (in_live chunks new q).1 (x, b, live, sym is)
        | inr was ↦
            let h = (in_live chunks old q).0 was in
            let ne : h.0 ≢ x = λ same. unused h.1 (sym (ap (tile_in old) same) ∙ h.2.0, h.2.1) in
            (in_live chunks new q).1 (h.0, h.1, others.stays h.0 h.1 ne h.2, h.3)
      ])

  module _ (size : ℕ → ℕ) (tiled : IsTiled size (tile_in old)) where
    -- two live tiles that are one block are one
    pub one_key : (j k : ℕ) (a b : Tile) → IsLiveAt (tile_in old) j a → IsLiveAt (tile_in old) k b → slot_of chunks a ≡ slot_of chunks b → j ≡ k
    one_key j k a b live_a live_b same =
        let chunk = ap (λ (s : Slot). s.chunk) same in
        let start = ap (λ (s : Slot). s.offset) same in
        let some_a = tiled.nonempty j a live_a.0 in
        let some_b = tiled.nonempty k b live_b.0 in
        tiled.apart j k a b live_a.0 live_b.0 chunk (omega (arith, start, some_b)) (omega (arith, start, some_a))

    -- a live tile is live no more
    pub live_less : (x : ℕ) (a : Tile) → IsLiveAt (tile_in old) x a → PutsTileBack (tile_in old) (tile_in new) x → live_slots_in chunks new ≡ set.remove (live_slots_in chunks old) (slot_of chunks a)
    live_less x a live back = same_slots _ _
        (λ q t.
        let h = (in_live chunks new q).0 t in
        let was = back.was h.0 h.1 h.2 in
        (slot_removed (live_slots_in chunks old) (slot_of chunks a) q).1 (
          (λ is. was.1 (one_key h.0 x h.1 a was.0 live (h.3 ∙ is))),
          (in_live chunks old q).1 (h.0, h.1, was.0, h.3),
        ))
        (λ q t.
        let r = (slot_removed (live_slots_in chunks old) (slot_of chunks a) q).0 t in
        let h = (in_live chunks old q).0 r.1 in
        let ne : h.0 ≢ x = λ same. r.0 (sym h.3 ∙ ap (slot_of chunks) (one_tile (tile_in old) h.0 x h.1 a h.2.0 live.0 same)) in
        (in_live chunks new q).1 (h.0, h.1, back.stays h.0 h.1 h.2 ne, h.3))

-- Live blocks as chunks come and go in which none is live.
pub live_elsewhere : (old new : HeldChunks) (nodes : Slab Node) → ((k : ℕ) (a : Tile) → IsLiveAt (tile_in nodes) k a → map.get new a.chunk ≡ map.get old a.chunk) → live_slots_in new nodes ≡ live_slots_in old nodes
live_elsewhere old new nodes same = same_slots _ _
    (λ q t. let h = (in_live new nodes q).0 t in (in_live old nodes q).1 (h.0, h.1, h.2, sym (named h.1 (same h.0 h.1 h.2)) ∙ h.3))
    (λ q t. let h = (in_live old nodes q).0 t in (in_live new nodes q).1 (h.0, h.1, h.2, named h.1 (same h.0 h.1 h.2) ∙ h.3))
  where
    named : (a : Tile) → map.get new a.chunk ≡ map.get old a.chunk → slot_of new a ≡ slot_of old a
    named a e = λ i. record { object = object_in (e i); chunk = a.chunk; offset = a.start; size = a.end - a.start }
