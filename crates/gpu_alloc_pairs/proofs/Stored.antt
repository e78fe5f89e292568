-- What the store keeps, as a block is taken: what is found, and what is live then.
use Rattle.std.proofs.Common.{◌≡◌, ℕ, ◌+◌, ◌-◌, ◌*◌, ◌^◌, ◌<◌, ◌≤◌, ◌⊎◌, inl, inr, List, length, map, get_or, IsTrue, Some, refl, sym, ◌∙◌, ap, subst, arith}
use Rattle.std.proofs.Math.ListN.{get_or-map}
use Rattle.std.proofs.lemmas.List.{length-map}
use Rattle.std.proofs.lemmas.Bool.{cases_lt}
use Rattle.std.specs.FinMap as finite
use Rattle.std.specs.FinSet as set
use Rattle.slab.specs.Slab.{Slab, slab_len}
use Rattle.gpu_alloc_base.specs.Accounts.{HeldChunks}
use Rattle.gpu_alloc_base.specs.Chunks.{Chunk, object_in}
use Rattle.gpu_alloc_base.specs.FreeSpace.{IsIn, IsFreePiece}
use Rattle.gpu_alloc_base.specs.Pieces.{IsCanonical}
use Rattle.gpu_alloc_base.specs.declared.buddy_block.Leaf.{Leaf}
use Rattle.gpu_alloc_base.specs.declared.piece.Piece.{Piece}
use Rattle.gpu_alloc_base.proofs.AlignedPowers.{pow-from_shorter, pow-le, order-le}
use Rattle.gpu_alloc_base.proofs.ExactPieces.{kept_is_free_piece, free_piece_is_kept, piece_for_place}
use Rattle.gpu_alloc_base.proofs.ListedRanges.{told_object}
use Rattle.gpu_alloc_base.proofs.Maps.{one_value}
use Rattle.gpu_alloc_pairs.specs.Entry.{Entry, half_start}
use Rattle.gpu_alloc_pairs.specs.Halves.{HalfAt, leaf_of, live_leaves, free_pieces}
use Rattle.gpu_alloc_pairs.specs.InHand.{IsTakenMore}
use Rattle.gpu_alloc_pairs.specs.Lengths.{FindsNoneUpTo, HasRoomsFor, HasSameSlots, IsFound, IsFrontTaken, piece_of}
use Rattle.gpu_alloc_pairs.specs.Space.{BuddySpace, IsFreeAt, IsSoundBuddySpace, HasPlace, IsFront, LiesInChunk, with_leaf}
use Rattle.gpu_alloc_pairs.specs.Store.{buddy_space_in, buddy_store_in, IsShortest, IsStored, KeepsStore, rooms_in}
use Rattle.gpu_alloc_pairs.specs.Tree.{Pairs, IsReady, IsTree, pair_at, no_pairs}
use Rattle.gpu_alloc_pairs.specs.declared.lengths.Found.{Found}
use Rattle.gpu_alloc_pairs.specs.declared.lengths.Front.{Front}
use Rattle.gpu_alloc_pairs.specs.declared.pair.Side.{Side}
use Rattle.gpu_alloc_pairs.specs.declared.pair.Use.TheVariants.{Free, Taken}
use Rattle.gpu_alloc_pairs.proofs.Climbs.{pair_in_range}
use Rattle.gpu_alloc_pairs.proofs.Fronts.{half_piece}
use Rattle.gpu_alloc_pairs.proofs.Halves.{live_leaves_are, live_more}
use Rattle.gpu_alloc_pairs.proofs.Slots.{same_pairs, same_halves}
use Rattle.gpu_alloc_pairs.proofs.Sound.{sound_with_leaf}
use Rattle.gpu_alloc_pairs.proofs.Space.{IsLeafOf, granted, free_lies}

-- Only the room changes.

module _ (chunks : HeldChunks) (old new : List (Slab Entry)) (same : HasSameSlots old new) where
  pub same_free : free_pieces new ≡ free_pieces old
  same_free = ap (λ hs. map (λ (h : HalfAt). h.piece) hs) (same_halves old new Free 0 same)

  pub same_space : buddy_space_in chunks new ≡ buddy_space_in chunks old
  same_space = ap (λ hs. record { chunks = chunks; live = set.from_list (map (leaf_of chunks) hs) }) (same_halves old new Taken 0 same)

  pub same_pairing : pair_at new ≡ pair_at old
  same_pairing = λ i n k. same_pairs old new same n k i

  pub same_count : length new ≡ length old
  same_count = sym (length-map new (λ (s : Slab Entry). s.slots)) ∙ ap length same ∙ length-map old (λ (s : Slab Entry). s.slots)

  pub stored_same : IsStored chunks old → IsStored chunks new
  stored_same i = record {
    count = same_count ∙ i.count;
    tree = subst (λ (P : Pairs). IsTree P chunks) (sym same_pairing) i.tree;
    canonical = subst (λ (s : BuddySpace). IsCanonical (IsReady (pair_at new)) (IsFreeAt s)) (sym same_space) (subst (λ (P : Pairs). IsCanonical (IsReady P) (IsFreeAt (buddy_space_in chunks old))) (sym same_pairing) i.canonical);
    sound = subst IsSoundBuddySpace (sym same_space) i.sound;
  }

pub keeps_same : (chunks now : HeldChunks) (room left : ℕ) (old new : List (Slab Entry)) → now ≡ chunks → HasSameSlots old new → KeepsStore (buddy_store_in chunks room old) (buddy_store_in now left new)
keeps_same chunks now room left old new is same = record {
  space = ap (λ m. buddy_space_in m new) is ∙ same_space chunks old new same;
  free = same_free chunks old new same;
}

-- Room, as a contract sees it and as it is stored.

pub room_at : (lengths : List (Slab Entry)) (n : ℕ) → get_or (rooms_in lengths) n 0 ≡ (get_or lengths n no_pairs).capacity - slab_len (get_or lengths n no_pairs)
room_at lengths n = get_or-map (λ (s : Slab Entry). s.capacity - slab_len s) lengths n no_pairs

pub rooms_to : (lengths : List (Slab Entry)) (low high : ℕ) → HasRoomsFor lengths low high → (n : ℕ) → low ≤ n → n < high → 0 < get_or (rooms_in lengths) n 0
rooms_to lengths low high rooms n from to = let room = rooms n from to in omega (arith, room, room_at lengths n)

pub rooms_from : (lengths : List (Slab Entry)) (low high : ℕ) → ((n : ℕ) → low ≤ n → n < high → 0 < get_or (rooms_in lengths) n 0) → HasRoomsFor lengths low high
rooms_from lengths low high rooms n from to = let room = rooms n from to in omega (arith, room, room_at lengths n)

-- What is found.

module _ (chunks : HeldChunks) (lengths : List (Slab Entry)) (i : IsStored chunks lengths) (order : ℕ) where
  abbrev P : Pairs
  P = pair_at lengths

  abbrev s : BuddySpace
  s = buddy_space_in chunks lengths

  -- a free half is of one of the lengths
  ready_in_range : (p : Piece) → IsReady P p → p.order < 63
  ready_in_range p r = let lt = pair_in_range lengths p.order r.key r.half.entry r.half.pair in omega (arith, lt, i.count)

  -- where none is found there is no place
  pub no_place : FindsNoneUpTo P order 63 → HasPlace s (2 ^ order) → ⊥
  no_place none (chunk, start, place) =
      let w = piece_for_place (IsReady P) (IsFreeAt s) i.canonical chunk order start place.aligned place.free in
      let r = w.1 in
      none (w.0).order w.2 (ready_in_range w.0 r) r.key r.half.entry r.side r.half.pair r.half.used

  module _ (f : Found) (found : IsFound P order f) where
    abbrev h : Piece
    h = half_piece f.half f.order

    -- the half that is found
    pub found_ready : IsReady P h
    found_ready = record {
      key = (f.half).key;
      side = (f.half).side;
      half = record { entry = found.half.entry; pair = found.half.at; chunk = found.half.chunk; start = ap (λ n. half_start (2 ^ f.order) n (f.half).side) found.half.offset; used = found.half.free };
    }

    pub found_is_piece : IsFreePiece (IsFreeAt s) (f.half).chunk (half_start (2 ^ f.order) (f.half).offset (f.half).side) (2 ^ f.order)
    found_is_piece = kept_is_free_piece (IsReady P) (IsFreeAt s) i.canonical h found_ready

    pub found_place : HasPlace s (2 ^ order)
    found_place =
        let aligned = i.canonical.aligned h found_ready in
        let e = pow-from_shorter order f.order found.from in
        let longer : 2 ^ order ≤ 2 ^ f.order = pow-le order f.order found.from in (
          (f.half).chunk,
          half_start (2 ^ f.order) (f.half).offset (f.half).side,
          record {
            power = (order, refl);
            aligned = (aligned.0 * 2 ^ (f.order - order), aligned.1 ∙ ap (λ n. aligned.0 * n) e ∙ omega arith);
            free = λ at j. i.canonical.free h found_ready at (record { from = j.from; to = omega (arith, j.to, longer) });
          },
        )

    -- no other that is long enough is shorter
    pub found_shortest : (chunk start other : ℕ) → IsFreePiece (IsFreeAt s) chunk start other → 2 ^ order ≤ other → 2 ^ f.order ≤ other
    found_shortest chunk start other free enough =
        let j : ℕ = free.place.power.0 in
        let e : other ≡ 2 ^ j = free.place.power.1 in
        let q : Piece = record { chunk = chunk; start = start; order = j } in
        let r : IsReady P q = free_piece_is_kept (IsReady P) (IsFreeAt s) i.canonical q (subst (λ n. IsFreePiece (IsFreeAt s) chunk start n) e free) in
        let at_least : order ≤ j = order-le order j (omega (arith, enough, e)) in
        elim (cases_lt j f.order) [
          | inl short ↦ absurd (found.first j at_least short r.key r.half.entry r.side r.half.pair r.half.used)
          | inr long ↦ omega (arith, e, pow-le f.order j long)
        ]

    pub found_is_shortest : IsShortest s (2 ^ order) (2 ^ f.order)
    found_is_shortest = record {
      enough = pow-le order f.order found.from;
      there = ((f.half).chunk, half_start (2 ^ f.order) (f.half).offset (f.half).side, found_is_piece);
      shortest = found_shortest;
    }

    -- the chunk in which it lies
    pub found_lies : (c : Chunk) × ((finite.get chunks (f.half).chunk ≡ Some c) × (half_start (2 ^ f.order) (f.half).offset (f.half).side + 2 ^ f.order ≤ c.size))
    found_lies = let l = free_lies s h (λ at j. i.canonical.free h found_ready at j) in (l.held, (l.is, l.inside))

    pub front_found : (leaf : Leaf) (c : Chunk) → leaf.chunk ≡ (f.half).chunk → leaf.offset ≡ half_start (2 ^ f.order) (f.half).offset (f.half).side → leaf.size ≡ 2 ^ order
        → finite.get chunks (f.half).chunk ≡ Some c → leaf.object ≡ c.object → IsFront s (2 ^ order) leaf
    front_found leaf c chunk start size held object = record {
      of_size = size;
      chunk = c;
      held = ap (finite.get chunks) chunk ∙ held;
      object = object;
      length = 2 ^ f.order;
      piece = subst (λ a. IsFreePiece (IsFreeAt s) leaf.chunk a (2 ^ f.order)) (sym start) (subst (λ k. IsFreePiece (IsFreeAt s) k (half_start (2 ^ f.order) (f.half).offset (f.half).side) (2 ^ f.order)) (sym chunk) found_is_piece);
      enough = pow-le order f.order found.from;
      shortest = found_shortest;
    }

-- What is live.

-- a block that is a taken half
pub leaf_is : (chunks : HeldChunks) (z : Piece) (key : ℕ) (side : Side) (leaf : Leaf) → IsLeafOf leaf z → leaf.index ≡ key → leaf.object ≡ object_in (finite.get chunks z.chunk)
    → leaf_of chunks (record { piece = z; key = key; side = side }) ≡ leaf
leaf_is chunks z key side leaf of index object = λ i. record { object = sym object i; chunk = sym of.chunk i; offset = sym of.offset i; size = sym of.size i; index = sym index i }

-- one more half is taken
pub live_with : (chunks : HeldChunks) (old new : List (Slab Entry)) (z : Piece) (key : ℕ) (side : Side) (leaf : Leaf) → leaf_of chunks (record { piece = z; key = key; side = side }) ≡ leaf
    → IsTakenMore (pair_at old) (pair_at new) z key side → live_leaves chunks new ≡ set.insert (live_leaves chunks old) leaf
live_with chunks old new z key side leaf is more = live_more (live_leaves chunks old) (live_leaves chunks new) leaf (λ q. (to q, from q))
  where
    to : (q : Leaf) → IsTrue (set.contains (live_leaves chunks new) q) → (q ≡ leaf) ⊎ IsTrue (set.contains (live_leaves chunks old) q)
    to q live =
        let w = (live_leaves_are chunks new q).0 live in
        elim (more.cases (w.0).piece (w.0).key (w.0).side w.1.0) [
          | inl here ↦ inl (sym w.1.1 ∙ ap (leaf_of chunks) (λ i. record { piece = here.0 i; key = here.1.0 i; side = here.1.1 i }) ∙ is)
          | inr was ↦ inr ((live_leaves_are chunks old q).1 (w.0, (was, w.1.1)))
        ]

    from : (q : Leaf) → (q ≡ leaf) ⊎ IsTrue (set.contains (live_leaves chunks old) q) → IsTrue (set.contains (live_leaves chunks new) q)
    from q (inl same) = (live_leaves_are chunks new q).1 (record { piece = z; key = key; side = side }, (more.added, is ∙ sym same))
    from q (inr was) =
        let w = (live_leaves_are chunks old q).0 was in
        (live_leaves_are chunks new q).1 (w.0, (more.kept (w.0).piece (w.0).key (w.0).side w.1.0, w.1.1))

-- A block is taken.

module _ (chunks : HeldChunks) (old new : List (Slab Entry)) (i : IsStored chunks old) (order : ℕ) (front : Front) (leaf : Leaf) (c : Chunk)
    (taken : IsFrontTaken (pair_at old) (pair_at new) (buddy_space_in chunks old) order front) (count : length new ≡ length old)
    (of : IsLeafOf leaf (piece_of front order)) (index : leaf.index ≡ front.key) (held : finite.get chunks front.chunk ≡ Some c) (object : leaf.object ≡ c.object) where
  abbrev z : Piece
  z = piece_of front order

  pub taken_live : buddy_space_in chunks new ≡ with_leaf (buddy_space_in chunks old) leaf
  taken_live =
      ap (λ l. record { chunks = chunks; live = l })
      (live_with chunks old new z front.key taken.side leaf (leaf_is chunks z front.key taken.side leaf of index (object ∙ sym (told_object (finite.get chunks front.chunk) c held))) taken.more)

  free_there : (at : ℕ) → IsIn leaf.offset leaf.size at → IsFreeAt (buddy_space_in chunks old) leaf.chunk at
  free_there at j = subst (λ k. IsFreeAt (buddy_space_in chunks old) k at) (sym of.chunk) (taken.out.beside.inside at (record { from = omega (arith, j.from, of.offset); to = omega (arith, j.to, of.offset, of.size) }))

  lies : LiesInChunk (buddy_space_in chunks old) leaf
  lies =
      let l = free_lies (buddy_space_in chunks old) z (λ at j. taken.out.beside.inside at j) in
      let same : l.held ≡ c = one_value _ l.held c l.is held in
      let aligned = taken.out.beside.aligned in
      record {
        chunk = c;
        held = ap (finite.get chunks) of.chunk ∙ held;
        object = object;
        power = (order, of.size);
        aligned = (aligned.0, of.offset ∙ aligned.1 ∙ ap (λ n. aligned.0 * n) (sym of.size));
        inside = omega (arith, of.offset, of.size, l.inside, ap (λ (x : Chunk). x.size) same);
      }

  pub stored_taken : IsStored chunks new
  stored_taken = record {
    count = count ∙ i.count;
    tree = taken.out.tree;
    canonical = subst (λ (s : BuddySpace). IsCanonical (IsReady (pair_at new)) (IsFreeAt s)) (sym taken_live) (granted leaf z of (IsReady (pair_at new)) (buddy_space_in chunks old) (with_leaf (buddy_space_in chunks old) leaf) refl refl taken.out.beside);
    sound = subst IsSoundBuddySpace (sym taken_live) (sound_with_leaf (buddy_space_in chunks old) leaf i.sound lies free_there);
  }
