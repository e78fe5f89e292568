-- A live block comes back to the store, and its chunk may go.
use Rattle.std.proofs.Common.{◌≡◌, inl, inr, ℕ, ◌+◌, ◌-◌, ◌*◌, ◌^◌, ◌<◌, ◌≤◌, ◌==◌, List, length, map, Some, refl, sym, ◌∙◌, ap, subst, arith}
use Rattle.std.proofs.lemmas.Bool.Decides.{Decides-eqb}
use Rattle.std.proofs.lemmas.Nat.{pow_pos, pow-add}
use Rattle.std.proofs.Math.Nat.{lt_of_mul-lt-mul_right}
use mathlib.Core.Bool.{true≢false}
use Rattle.std.specs.FinMap as finite
use Rattle.std.specs.FinSet as set
use Rattle.slab.specs.Slab.{Slab}
use Rattle.gpu_alloc_base.specs.Accounts.{HeldChunks}
use Rattle.gpu_alloc_base.specs.Chunks.{Chunk}
use Rattle.gpu_alloc_base.specs.Pieces.{IsCanonical}
use Rattle.gpu_alloc_base.specs.declared.buddy_block.Leaf.{Leaf}
use Rattle.gpu_alloc_base.specs.declared.piece.Piece.{Piece}
use Rattle.gpu_alloc_base.proofs.AlignedPowers.{doubled, order-le}
use Rattle.gpu_alloc_base.proofs.Leaves.{in_leaves}
use Rattle.gpu_alloc_base.proofs.Lists.{seek}
use Rattle.gpu_alloc_base.proofs.Maps.{one_value, kept_other}
use Rattle.gpu_alloc_pairs.specs.Entry.{Entry, half_start}
use Rattle.gpu_alloc_pairs.specs.Halves.{HalfAt, halves_from, leaf_of, live_leaves}
use Rattle.gpu_alloc_pairs.specs.InHand.{IsReturning, IsTakenLess}
use Rattle.gpu_alloc_pairs.specs.Lengths.{ComesBack, FewReleases, IsFreeAgain, IsWholeAgain}
use Rattle.gpu_alloc_pairs.specs.Space.{BuddySpace, IsFreeAt, IsLiveLeaf, IsSoundBuddySpace, IsUnusedChunk, IsUsedChunk, without_leaf_and_chunk, without_leaf}
use Rattle.gpu_alloc_pairs.specs.Store.{buddy_space_in, HasSide, IsStored}
use Rattle.gpu_alloc_pairs.specs.Tree.{IsHalf, IsReady, pair_at}
use Rattle.gpu_alloc_pairs.specs.declared.pair.Side.{Side}
use Rattle.gpu_alloc_pairs.specs.declared.pair.Side.TheVariants.{Left, Right}
use Rattle.gpu_alloc_pairs.specs.declared.pair.Use.TheVariants.{Taken, Divided}
use Rattle.gpu_alloc_pairs.proofs.Begins.{live_chunks, tree_chunks}
use Rattle.gpu_alloc_pairs.proofs.Halves.{live_leaves_are, live_less}
use Rattle.gpu_alloc_pairs.proofs.Sound.{sound_left, sound_without, was_another}
use Rattle.gpu_alloc_pairs.proofs.Space.{IsLeafOf, chunk_goes, returned, unused_is_kept, whole_is_unused}
use Rattle.gpu_alloc_pairs.proofs.Trees.{one_half, undivided}

-- Powers and sides, which identify a half by its bytes.

pub same_order : (k j : ℕ) → 2 ^ k ≡ 2 ^ j → k ≡ j
same_order k j same = let a = order-le k j (omega (arith, same)) in let b = order-le j k (omega (arith, same)) in omega arith

-- an even multiple is no odd one
not_odd : (p m n : ℕ) → 0 < p → m * (2 * p) ≡ n * (2 * p) + p → ⊥
not_odd p m n some same =
    let up : (2 * n) * p < (2 * m) * p = omega (arith, same, some) in
    let less : 2 * n < 2 * m = lt_of_mul-lt-mul_right p up in
    let down : (2 * m) * p < (2 * n + 2) * p = omega (arith, same, some) in
    let more : 2 * m < 2 * n + 2 = lt_of_mul-lt-mul_right p down in
    omega arith

pub same_side : (order m n offset : ℕ) (a b : Side) → offset ≡ half_start (2 ^ order) (m * 2 ^ (order + 1)) a → offset ≡ half_start (2 ^ order) (n * 2 ^ (order + 1)) b → a ≡ b
same_side order m n offset Left Left x y = refl
same_side order m n offset Right Right x y = refl
same_side order m n offset Left Right x y =
    let e : m * 2 ^ (order + 1) ≡ m * (2 * 2 ^ order) = ap (λ k. m * k) (doubled order) in
    let f : n * 2 ^ (order + 1) ≡ n * (2 * 2 ^ order) = ap (λ k. n * k) (doubled order) in
    absurd (not_odd (2 ^ order) m n (pow_pos order) (omega (arith, x, y, e, f)))
same_side order m n offset Right Left x y =
    let e : m * 2 ^ (order + 1) ≡ m * (2 * 2 ^ order) = ap (λ k. m * k) (doubled order) in
    let f : n * 2 ^ (order + 1) ≡ n * (2 * 2 ^ order) = ap (λ k. n * k) (doubled order) in
    absurd (not_odd (2 ^ order) n m (pow_pos order) (omega (arith, x, y, e, f)))

-- The half that a live block is.

module _ (chunks : HeldChunks) (old : List (Slab Entry)) (i : IsStored chunks old) (leaf : Leaf) (live : IsLiveLeaf (buddy_space_in chunks old) leaf) where
  abbrev s : BuddySpace
  s = buddy_space_in chunks old

  abbrev left : BuddySpace
  left = without_leaf s leaf

  pub at_half : (h : HalfAt) × (IsHalf (pair_at old) h.piece h.key h.side Taken × (leaf_of chunks h ≡ leaf))
  at_half = (live_leaves_are chunks old leaf).0 live

  abbrev h : HalfAt
  h = at_half.0

  pub leaf_piece : IsLeafOf leaf h.piece
  leaf_piece = record { chunk = ap (λ (l : Leaf). l.chunk) (sym at_half.1.1); offset = ap (λ (l : Leaf). l.offset) (sym at_half.1.1); size = ap (λ (l : Leaf). l.size) (sym at_half.1.1) }

  -- its length, its pair and its side
  pub leaf_order : (order : ℕ) → leaf.size ≡ 2 ^ order → (h.piece).order ≡ order
  leaf_order order size = same_order (h.piece).order order (sym leaf_piece.size ∙ size)

  leaf_key : h.key ≡ leaf.index
  leaf_key = ap (λ (l : Leaf). l.index) at_half.1.1

  leaf_side : (order : ℕ) (side : Side) → leaf.size ≡ 2 ^ order → HasSide leaf.offset order side → h.side ≡ side
  leaf_side order side size has =
      let half = at_half.1.0 in
      let is = leaf_order order size in
      let aligned = i.tree.aligned (h.piece).order h.key half.entry half.pair in
      let own : leaf.offset ≡ half_start (2 ^ (h.piece).order) (aligned.0 * 2 ^ ((h.piece).order + 1)) h.side = leaf_piece.offset ∙ half.start ∙ ap (λ n. half_start (2 ^ (h.piece).order) n h.side) aligned.1 in
      same_side order aligned.0 has.0 leaf.offset h.side side (subst (λ n. leaf.offset ≡ half_start (2 ^ n) (aligned.0 * 2 ^ (n + 1)) h.side) is own) has.1

  pub in_hand : IsReturning (pair_at old) left h.piece h.key h.side
  in_hand =
      let half = at_half.1.0 in
      let l = i.sound.inside leaf live in
      record {
        tree = i.tree;
        now = Taken;
        half = half;
        used = λ e. cc;
        whole = undivided (pair_at old) chunks i.tree (h.piece).order h.key half.entry h.side half.pair (λ e. taken_not_divided (sym half.used ∙ e));
        beside = returned leaf h.piece leaf_piece (IsReady (pair_at old)) s left refl live (λ q q_live named at in_q in_leaf. i.sound.apart q leaf q_live live named at in_q in_leaf)
            l.chunk (ap (finite.get chunks) (sym leaf_piece.chunk) ∙ l.held) (omega (arith, l.inside, leaf_piece.offset, leaf_piece.size))
            (l.aligned.0, sym leaf_piece.offset ∙ l.aligned.1 ∙ ap (λ n. l.aligned.0 * n) leaf_piece.size) refl i.canonical;
      }
    where
      taken_not_divided : Taken ≡ Divided → ⊥
      taken_not_divided e = cc

  -- the same by what the block says of itself
  module _ (order : ℕ) (side : Side) (size : leaf.size ≡ 2 ^ order) (has : HasSide leaf.offset order side) where
    pub returning : IsReturning (pair_at old) left h.piece leaf.index side
    returning = subst (λ a. IsReturning (pair_at old) left h.piece leaf.index a) (leaf_side order side size has) (subst (λ k. IsReturning (pair_at old) left h.piece k h.side) leaf_key in_hand)

    pub comes_back : ComesBack (pair_at old) order leaf.index side
    comes_back = record { space = left; piece = h.piece; of_order = leaf_order order size; returning = returning }

    -- what is told of a half that comes back is told of the block's
    pub told_back : (R : BuddySpace → Piece → Type 0) → ((s : BuddySpace) (z : Piece) → z.order ≡ order → IsReturning (pair_at old) s z leaf.index side → R s z) → R left h.piece
    told_back R told = told left h.piece (leaf_order order size) returning

    pub chunk_of : (c : Chunk) → finite.get chunks leaf.chunk ≡ Some c → finite.get chunks (h.piece).chunk ≡ Some c
    chunk_of c held = ap (finite.get chunks) (sym leaf_piece.chunk) ∙ held

    pub few_releases : (was now : ℕ) → FewReleases (pair_at old) order leaf.index side was now → (c : Chunk) → finite.get chunks leaf.chunk ≡ Some c → leaf.size * 2 ^ (now - was) ≤ c.size
    few_releases was now few c held =
        let le = few left h.piece (leaf_order order size) returning c (chunk_of c held) in
        omega (arith, le, size, ap (λ n. n * 2 ^ (now - was)) size, pow-add 2 order (now - was))

    module _ (new : List (Slab Entry)) (count : length new ≡ length old) where
      -- the other blocks are live still
      live_left : IsTakenLess (pair_at old) (pair_at new) h.piece → live_leaves chunks new ≡ set.remove (live_leaves chunks old) leaf
      live_left less = live_less (live_leaves chunks old) (live_leaves chunks new) leaf (λ q. (
        (λ t.
            let w = (live_leaves_are chunks new q).0 t in
            let b = less.from (w.0).piece (w.0).key (w.0).side w.1.0 in
            ((λ same. b.1 (piece_same w.0 (w.1.1 ∙ same ∙ sym at_half.1.1))), (live_leaves_are chunks old q).1 (w.0, (b.0, w.1.1)))),
        (λ t.
            let w = (live_leaves_are chunks old q).0 t.1 in
            (live_leaves_are chunks new q).1 (w.0, (less.to (w.0).piece (w.0).key (w.0).side w.1.0 (λ same. t.0 (sym w.1.1 ∙ told w.0 w.1.0 same)), w.1.1))),
      ))
        where
          piece_same : (k : HalfAt) → leaf_of chunks k ≡ leaf_of chunks h → k.piece ≡ h.piece
          piece_same k same =
              let chunk : (k.piece).chunk ≡ (h.piece).chunk = ap (λ (l : Leaf). l.chunk) same in
              let start : (k.piece).start ≡ (h.piece).start = ap (λ (l : Leaf). l.offset) same in
              let order_is : (k.piece).order ≡ (h.piece).order = same_order (k.piece).order (h.piece).order (ap (λ (l : Leaf). l.size) same) in
              λ j. record { chunk = chunk j; start = start j; order = order_is j }

          told : (k : HalfAt) → IsHalf (pair_at old) k.piece k.key k.side Taken → k.piece ≡ h.piece → leaf_of chunks k ≡ leaf
          told k half same =
              let one = one_half (pair_at old) chunks i.tree h.piece k.key h.key k.side h.side Taken Taken (subst (λ p. IsHalf (pair_at old) p k.key k.side Taken) same half) at_half.1.0 in
              ap (leaf_of chunks) (λ j. record { piece = same j; key = one.0 j; side = one.1 j }) ∙ at_half.1.1

      -- Its half is free again.
      module _ (again : IsFreeAgain (pair_at old) (pair_at new) left h.piece) where
        pub left_space : buddy_space_in chunks new ≡ left
        left_space = ap (λ l. record { chunks = chunks; live = l }) (live_left again.less)

        -- another block of the chunk is live, since no free half is as long as the chunk
        still_used : IsUsedChunk left leaf.chunk
        still_used =
            let leaves : List Leaf = map (leaf_of chunks) (halves_from Taken 0 new) in
            let l = i.sound.inside leaf live in
            let power = i.sound.powers leaf.chunk l.chunk l.held in
            elim (seek (λ (q : Leaf). q.chunk == leaf.chunk) leaves) [
              | inl found ↦ (found.0, (ap (λ (t : BuddySpace). set.contains t.live found.0) (sym left_space) ∙ (in_leaves leaves found.0).1 found.1, (Decides-eqb (found.0).chunk leaf.chunk).0 found.2))
              | inr none ↦ absurd (
                  let whole = unused_is_kept (IsReady (pair_at new)) left leaf.chunk power.0 l.chunk again.canonical l.held power.1.1
                  (λ q q_live named. true≢false (sym ((Decides-eqb q.chunk leaf.chunk).1 named) ∙ none q ((in_leaves leaves q).0 (ap (λ (t : BuddySpace). set.contains t.live q) left_space ∙ q_live)))) in
                  let half = whole.half in
                  let inside = again.tree.inside power.0 whole.key half.entry half.pair in
                  let same : inside.chunk ≡ l.chunk = one_value _ inside.chunk l.chunk (ap (finite.get chunks) half.chunk ∙ inside.held) l.held in
                  omega (arith, inside.inside, ap (λ (x : Chunk). x.size) same, power.1.1, doubled power.0, pow_pos power.0))
            ]

        pub still_in_use : IsUnusedChunk left leaf.chunk → ⊥
        still_in_use unused = unused still_used.0 still_used.1.0 still_used.1.1

        pub stored_left : IsStored chunks new
        stored_left = record {
          count = count ∙ i.count;
          tree = again.tree;
          canonical = subst (λ (t : BuddySpace). IsCanonical (IsReady (pair_at new)) (IsFreeAt t)) (sym left_space) again.canonical;
          sound = subst IsSoundBuddySpace (sym left_space) (sound_left s leaf i.sound still_used);
        }

      -- Its chunk is free as a whole, and is removed.
      module _ (gone : ℕ) (whole : IsWholeAgain (pair_at old) (pair_at new) left h.piece gone) where
        pub gone_is : gone ≡ leaf.chunk
        gone_is = sym whole.named ∙ whole.of_piece ∙ sym leaf_piece.chunk

        here : (whole.whole).chunk ≡ leaf.chunk
        here = whole.of_piece ∙ sym leaf_piece.chunk

        pub no_more_in_use : IsUnusedChunk left leaf.chunk
        no_more_in_use q q_live named =
            let was = was_another s leaf i.sound q q_live in
            let l = i.sound.inside q was.1 in
            let a = whole.alone in
            let same : l.chunk ≡ a.chunk = one_value _ l.chunk a.chunk l.held (ap (finite.get chunks) (named ∙ sym here) ∙ a.held) in
            whole_is_unused left whole.whole a.chunk a.held a.size (λ at j. whole.beside.inside at j) q q_live (named ∙ sym here) (omega (arith, l.power.1, pow_pos l.power.0)) (omega (arith, l.inside, ap (λ (x : Chunk). x.size) same))

        abbrev fewer : HeldChunks
        fewer = finite.remove chunks leaf.chunk

        others_same : (n k : ℕ) (f : Entry) → pair_at new n k ≡ Some f → finite.get fewer f.chunk ≡ finite.get chunks f.chunk
        others_same n k f at = kept_other chunks leaf.chunk f.chunk (λ same. whole.alone.alone n k f at (same ∙ sym here))

        pub gone_space : buddy_space_in fewer new ≡ without_leaf_and_chunk s leaf
        gone_space = ap (λ l. record { chunks = fewer; live = l }) (live_chunks chunks fewer new others_same ∙ live_left whole.less)

        pub stored_gone : IsStored fewer new
        stored_gone = record {
          count = count ∙ i.count;
          tree = tree_chunks (pair_at new) chunks fewer others_same whole.tree;
          canonical = subst (λ (t : BuddySpace). IsCanonical (IsReady (pair_at new)) (IsFreeAt t)) (sym gone_space)
              (chunk_goes (IsReady (pair_at new)) left (without_leaf_and_chunk s leaf) whole.whole whole.alone.chunk whole.alone.size refl whole.alone.held (ap (finite.remove chunks) (sym here)) whole.beside);
          sound = subst IsSoundBuddySpace (sym gone_space) (sound_without s leaf i.sound no_more_in_use);
        }
