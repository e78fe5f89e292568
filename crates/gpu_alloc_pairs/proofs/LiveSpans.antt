-- Live blocks by their spans: one at most has a span, and it is the taken half that has it.
use Rattle.std.proofs.Common.{◌≡◌, ◌≢◌, ℕ, ◌^◌, ◌<◌, List, length, get_or, MatchOption, Option, Some, None, option_map, refl, sym, ◌∙◌, ap, subst, arith}
use Rattle.std.proofs.lemmas.List.{get_or_default}
use Rattle.std.proofs.lemmas.Nat.{pow_pos}
use Rattle.std.specs.FinMap as finite
use Rattle.slab.specs.Slab.{Slab, get}
use Rattle.gpu_alloc_base.specs.Accounts.{HeldChunks}
use Rattle.gpu_alloc_base.specs.Chunks.{Chunk, object_in}
use Rattle.gpu_alloc_base.specs.SlabViews.{by_key}
use Rattle.gpu_alloc_base.specs.declared.buddy_block.Leaf.{Leaf}
use Rattle.gpu_alloc_base.proofs.SlabViews.{found_by_key}
use Rattle.gpu_alloc_pairs.specs.Blocks.{AreInChunks, BlockStandsNowhere, HasSpan}
use Rattle.gpu_alloc_pairs.specs.Entry.{Entry, entry_of, half_start}
use Rattle.gpu_alloc_pairs.specs.Halves.{HalfAt, leaf_of}
use Rattle.gpu_alloc_pairs.specs.Seen.{seen}
use Rattle.gpu_alloc_pairs.specs.Space.{BuddySpace, IsLiveLeaf, IsLiveSpan, IsNoLiveSpan, IsSoundBuddySpace}
use Rattle.gpu_alloc_pairs.specs.Store.{buddy_space_in, IsStored}
use Rattle.gpu_alloc_pairs.specs.Tree.{IsHalf, no_pairs, pair_at}
use Rattle.gpu_alloc_pairs.specs.declared.pair.Pair.{Pair}
use Rattle.gpu_alloc_pairs.specs.declared.pair.Use.TheVariants.{Taken}
use Rattle.gpu_alloc_pairs.proofs.Changes.{is_seen}
use Rattle.gpu_alloc_pairs.proofs.Climbs.{pair_in_range}
use Rattle.gpu_alloc_pairs.proofs.PutsBack.{same_order}
use Rattle.gpu_alloc_pairs.proofs.Halves.{live_leaves_are}
use Rattle.gpu_alloc_pairs.proofs.Ranges.{all_bounded}
use Rattle.gpu_alloc_pairs.proofs.Seen.{get_view}

-- Two live blocks of one object that start at one byte are one.
pub one_leaf : (s : BuddySpace) → IsSoundBuddySpace s → (x y : Leaf) → IsLiveLeaf s x → IsLiveLeaf s y → x.object ≡ y.object → x.offset ≡ y.offset → x ≡ y
one_leaf s sound x y live also object offset =
    let a = sound.inside x live in
    let b = sound.inside y also in
    let chunk : x.chunk ≡ y.chunk = sound.one_object x.chunk y.chunk a.chunk b.chunk a.held b.held (sym a.object ∙ object ∙ b.object) in
    let of_x : 0 < x.size = omega (arith, a.power.1, pow_pos a.power.0) in
    let of_y : 0 < y.size = omega (arith, b.power.1, pow_pos b.power.0) in
    sound.apart x y live also chunk x.offset (record { from = omega arith; to = omega (arith, of_x) }) (record { from = omega (arith, offset); to = omega (arith, offset, of_y) })

-- so what is found of a span is the block that is known to have it
pub exact_leaf : (s : BuddySpace) (object offset size : ℕ) (o : Option Leaf) → IsSoundBuddySpace s → MatchOption o (IsNoLiveSpan s object offset size) (IsLiveSpan s object offset size)
    → (leaf : Leaf) → IsLiveSpan s object offset size leaf → o ≡ Some leaf
exact_leaf s object offset size None sound none leaf is = absurd (none leaf is)
exact_leaf s object offset size (Some x) sound found leaf is =
    ap Some (one_leaf s sound x leaf found.live is.live (found.of_object ∙ sym is.of_object) (found.starts ∙ sym is.starts))

module _ (chunks : HeldChunks) (lengths : List (Slab Entry)) (i : IsStored chunks lengths) where
  -- each block has as many bytes as a half of one of the lengths
  pub of_no_length : (object offset size : ℕ) → ((n : ℕ) → n < 63 → size ≢ 2 ^ n) → IsNoLiveSpan (buddy_space_in chunks lengths) object offset size
  of_no_length object offset size none leaf is =
      let w = (live_leaves_are chunks lengths leaf).0 is.live in
      let half = w.1.0 in
      let lt = pair_in_range lengths w.0.piece.order w.0.key half.entry half.pair in
      none w.0.piece.order (omega (arith, lt, i.count)) (sym is.of_size ∙ ap (λ (l : Leaf). l.size) (sym w.1.1))

  -- The pairs of one length, as they are stored.
  module _ (order : ℕ) (pairs : Slab Pair) (are : seen pairs ≡ get_or lengths order no_pairs) where
    pub pair_is : (key : ℕ) (p : Pair) → get pairs key ≡ Some p → pair_at lengths order key ≡ Some (entry_of p)
    pair_is key p at = get_view pairs (get_or lengths order no_pairs) key are ∙ ap (option_map entry_of) at

    -- a pair that has the span has its block
    pub under_live : (object offset size key : ℕ) (p : Pair) → size ≡ 2 ^ order → get pairs key ≡ Some p → HasSpan chunks order object offset (entry_of p)
        → IsLiveSpan (buddy_space_in chunks lengths) object offset size (record { object = object; chunk = p.chunk; offset = offset; size = size; index = key })
    under_live object offset size key p sized at has =
        let side = has.0.0 in
        let h : HalfAt = record { piece = record { chunk = p.chunk; start = half_start (2 ^ order) p.offset side; order = order }; key = key; side = side } in
        let half : IsHalf (pair_at lengths) h.piece key side Taken = record { entry = entry_of p; pair = pair_is key p at; chunk = refl; start = refl; used = has.0.1.taken } in
        let leaf : Leaf = record { object = object; chunk = p.chunk; offset = offset; size = size; index = key } in
        let same : leaf_of chunks h ≡ leaf = λ j. record { object = has.1 j; chunk = p.chunk; offset = has.0.1.starts j; size = sym sized j; index = key } in
        record { live = (live_leaves_are chunks lengths leaf).1 (h, (half, same)); of_object = refl; starts = refl; of_size = refl }

    -- where no pair has it, no block does
    pub nowhere_live : (object offset size : ℕ) → size ≡ 2 ^ order → BlockStandsNowhere chunks pairs order object offset → IsNoLiveSpan (buddy_space_in chunks lengths) object offset size
    nowhere_live object offset size sized none leaf is =
        let w = (live_leaves_are chunks lengths leaf).0 is.live in
        let h = w.0 in
        let half = w.1.0 in
        let same : h.piece.order ≡ order = same_order h.piece.order order (ap (λ (l : Leaf). l.size) w.1.1 ∙ is.of_size ∙ sized) in
        let there : pair_at lengths order h.key ≡ Some half.entry = subst (λ n. pair_at lengths n h.key ≡ Some half.entry) same half.pair in
        let p = is_seen (get pairs h.key) half.entry (sym (get_view pairs (get_or lengths order no_pairs) h.key are) ∙ there) in
        let starts : half_start (2 ^ order) half.entry.offset h.side ≡ offset =
        ap (λ n. half_start (2 ^ n) half.entry.offset h.side) (sym same) ∙ sym half.start ∙ ap (λ (l : Leaf). l.offset) w.1.1 ∙ is.starts in
        let object_is : object_in (finite.get chunks half.entry.chunk) ≡ object =
        ap (λ k. object_in (finite.get chunks k)) (sym half.chunk) ∙ ap (λ (l : Leaf). l.object) w.1.1 ∙ is.of_object in
        let has : HasSpan chunks order object offset half.entry = ((h.side, record { taken = half.used; starts = starts }), object_is) in
        none h.key (p.0, p.1.0, subst (HasSpan chunks order object offset) (sym p.1.1) has)

-- the pairs of a length are those that stand at its place
pub pairs_there : (lengths : List (Slab Entry)) (order : ℕ) (v : Slab Entry) (pairs : Slab Pair) → length lengths ≡ 63 → order < 63 → v ≡ get_or lengths order v → seen pairs ≡ v
    → seen pairs ≡ get_or lengths order no_pairs
pairs_there lengths order v pairs count short there are = are ∙ there ∙ get_or_default lengths order v no_pairs (omega (arith, count, short))

-- each lies in a held chunk, and below 2^64
pub all_in_chunks : {C : Type 0} (value : C → Chunk) (chunks : Slab C) (lengths : List (Slab Entry)) → IsStored (by_key value chunks) lengths
    → (order : ℕ) (pairs : Slab Pair) → seen pairs ≡ get_or lengths order no_pairs → AreInChunks chunks order pairs
all_in_chunks value chunks lengths i order pairs are key p at =
    let there = pair_is (by_key value chunks) lengths i order pairs are key p at in
    let l = i.tree.inside order key (entry_of p) there in
    let row = found_by_key value chunks p.chunk l.chunk l.held in
    record { held = rw (row.1) refl; bounded = all_bounded (by_key value chunks) lengths i order key (entry_of p) there }
