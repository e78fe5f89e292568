-- A half is in hand and comes back: it is free again, or its pair goes and what the pair divided is in hand.
use Rattle.std.proofs.Common.{◌≡◌, ℕ, zero, suc, ◌+◌, ◌-◌, ◌^◌, ◌<◌, ◌≤◌, inl, inr, Option, Some, None, refl, sym, ◌∙◌, ap, subst, arith}
use Rattle.std.specs.FinMap as finite
use Rattle.gpu_alloc_base.specs.Chunks.{Chunk}
use Rattle.gpu_alloc_base.specs.FreeSpace.{IsMultipleOf}
use Rattle.gpu_alloc_base.specs.Pieces.{InPiece, IsCanonical, Without, IsCanonicalBeside, IsWith, AreHalves}
use Rattle.gpu_alloc_base.specs.declared.piece.Piece.{Piece}
use Rattle.gpu_alloc_base.proofs.AlignedPowers.{order-le}
use Rattle.gpu_alloc_base.proofs.Maps.{one_value}
use Rattle.gpu_alloc_pairs.specs.Entry.{Entry, use_of, other_side, half_start}
use Rattle.gpu_alloc_pairs.specs.InHand.{SetsHalf, AddsPair, IsReturning}
use Rattle.gpu_alloc_pairs.specs.Space.{BuddySpace, IsFreeAt}
use Rattle.gpu_alloc_pairs.specs.Tree.{Pairs, IsHalf, IsReady, IsRoot, Divides, IsPlaced, IsUndivided, IsTree}
use Rattle.gpu_alloc_pairs.specs.declared.pair.Parent.{Parent}
use Rattle.gpu_alloc_pairs.specs.declared.pair.Side.{Side}
use Rattle.gpu_alloc_pairs.specs.declared.pair.Side.TheVariants.{Left, Right}
use Rattle.gpu_alloc_pairs.specs.declared.pair.Use.TheVariants.{Free, Taken, Divided}
use Rattle.gpu_alloc_pairs.proofs.PieceHalves.{halves_of, join_left, join_right, splits}
use Rattle.gpu_alloc_pairs.proofs.PieceSteps.{put}
use Rattle.gpu_alloc_pairs.proofs.Splits.{free_not_taken}
use Rattle.gpu_alloc_pairs.proofs.Trees.{piece_at, piece_is, pair_halves, one_entry, one_half, one_use, one_piece, undivided, no_entry, no_left_half, no_right_half, side_or_other}
use Rattle.gpu_alloc_pairs.proofs.TreeSteps.{half_set, half_kept, half_less, ready_more, tree_after_set, half_cases, half_stays, pair_kept, pair_cases, ready_with, not_ready_before, tree_without}

module _ (P : Pairs) (s : BuddySpace) (z : Piece) (key : ℕ) (side : Side) (r : IsReturning P s z key side) (e : Entry) (at : P z.order key ≡ Some e) where
  same_entry : r.half.entry ≡ e
  same_entry = one_entry (P z.order key) r.half.entry e r.half.pair at

  -- the piece in hand is this half of the pair
  pub in_hand_is : z ≡ piece_at z.order e side
  in_hand_is = piece_is P z key side r.now r.half ∙ ap (λ f. piece_at z.order f side) same_entry

  pub in_hand_used : use_of e side ≡ Free → ⊥
  in_hand_used free = r.used (sym r.half.used ∙ ap (λ (f : Entry). use_of f side) same_entry ∙ free)

  -- It is free again, since the other half is not.
  module _ (Q : Pairs) (sets : SetsHalf P Q z.order key side e Free) (other : use_of e (other_side side) ≡ Free → ⊥) where
    pub freed_tree : IsTree Q s.chunks
    freed_tree = tree_after_set P Q z.order key side e Free sets s.chunks r.tree (inr r.whole)

    pub freed_canonical : IsCanonical (IsReady Q) (IsFreeAt s)
    freed_canonical =
        put (IsReady P) (IsReady Q) (IsFreeAt s) z
        (subst (IsWith (IsReady P) (IsReady Q)) (sym in_hand_is) (ready_more P Q z.order key side e Free sets in_hand_used refl))
        r.beside.aligned
        r.beside.inside
        (λ q ready halves. no_right_half P s.chunks r.tree z.order key e side at other q ready (subst (λ x. AreHalves x q) in_hand_is halves))
        (λ q ready halves. no_left_half P s.chunks r.tree z.order key e side at other q ready (subst (λ x. AreHalves q x) in_hand_is halves))
        (λ chunk b f. splits (IsFreeAt s) z chunk b f)
        r.beside.canonical

    -- the other live blocks are those of before
    pub freed_kept : (p : Piece) (k : ℕ) (a : Side) → IsHalf P p k a Taken → (p ≡ z → ⊥) → IsHalf Q p k a Taken
    freed_kept p k a h another = half_kept P Q z.order key side e Free sets p k a Taken (λ x y w.
        another (one_piece P s.chunks r.tree p z key side Taken r.now x (subst (λ b. IsHalf P p key b Taken) w (subst (λ n. IsHalf P p n a Taken) y h)) r.half)) h

    pub freed_back : (p : Piece) (k : ℕ) (a : Side) → IsHalf Q p k a Taken → IsHalf P p k a Taken × (p ≡ z → ⊥)
    freed_back p k a h = (half_less P Q z.order key side e Free sets Taken free_not_taken p k a h, another)
      where
        another : p ≡ z → ⊥
        another is =
            let there : IsHalf Q z key side Free = subst (λ x. IsHalf Q x key side Free) (sym in_hand_is) (half_set P Q z.order key side e Free sets) in
            free_not_taken (one_use Q s.chunks freed_tree z key k side a Free Taken there (subst (λ x. IsHalf Q x k a Taken) is h))

  -- Its pair goes, since the other half is free.
  module _ (Q : Pairs) (goes : AddsPair Q P z.order key e) (other : use_of e (other_side side) ≡ Free) where
    -- neither half is divided
    whole_side : (a : Side) → IsUndivided P z.order key a
    whole_side a = elim (side_or_other side a) [
      | inl same ↦ subst (IsUndivided P z.order key) (sym same) r.whole
      | inr o ↦ subst (IsUndivided P z.order key) (sym o) (undivided P s.chunks r.tree z.order key e (other_side side) at (λ d. free_not_divided (sym other ∙ d)))
    ]
      where
        free_not_divided : Free ≡ Divided → ⊥
        free_not_divided x = cc

    pub merged_tree : IsTree Q s.chunks
    merged_tree = tree_without Q P z.order key e goes s.chunks r.tree whole_side

    -- the other live blocks are those of before
    pub merged_kept : (p : Piece) (k : ℕ) (a : Side) → IsHalf P p k a Taken → (p ≡ z → ⊥) → IsHalf Q p k a Taken
    merged_kept p k a h another = elim (half_cases Q P z.order key e goes p k a Taken h) [
      | inl here ↦ elim (side_or_other side a) [
        | inl same ↦ absurd (another (here.1.0 ∙ ap (piece_at z.order e) same ∙ sym in_hand_is))
        | inr o ↦ absurd (free_not_taken (sym other ∙ ap (use_of e) (sym o) ∙ here.1.1))
      ]
      | inr was ↦ was
    ]

    pub merged_back : (p : Piece) (k : ℕ) (a : Side) → IsHalf Q p k a Taken → IsHalf P p k a Taken × (p ≡ z → ⊥)
    merged_back p k a h = (half_stays Q P z.order key e goes p k a Taken h, another)
      where
        another : p ≡ z → ⊥
        another is =
            let there : IsHalf P z k a Taken = half_stays Q P z.order key e goes z k a Taken (subst (λ x. IsHalf Q x k a Taken) is h) in
            let same = one_half P s.chunks r.tree z k key a side Taken r.now there r.half in
            no_entry (Q z.order key) h.entry goes.vacant (subst (λ n. Q z.order n ≡ Some h.entry) same.0 (subst (λ (x : Piece). Q x.order k ≡ Some h.entry) is h.pair))

    -- the range of both halves
    abbrev whole : Piece
    whole = record { chunk = e.chunk; start = e.offset; order = z.order + 1 }

    -- the two pieces, by the side in hand
    pub merged_beside : IsCanonicalBeside (IsReady Q) (IsFreeAt s) whole
    merged_beside = by_side side refl
      where
        aligned : IsMultipleOf (2 ^ (z.order + 1)) e.offset
        aligned = r.tree.aligned z.order key e at

        halves : AreHalves (piece_at z.order e Left) (piece_at z.order e Right)
        halves = pair_halves z.order e aligned

        -- each byte of both halves is free: of the one in hand, and of the one that was ready
        each : (a : Side) (b : ℕ) → InPiece (piece_at z.order e a) b → IsFreeAt s e.chunk b
        each a b i = elim (side_or_other side a) [
          | inl is ↦ subst (λ (x : Piece). IsFreeAt s x.chunk b) in_hand_is (r.beside.inside b (subst (λ (x : Piece). InPiece x b) (ap (piece_at z.order e) is ∙ sym in_hand_is) i))
          | inr is ↦
              let ready : IsReady P (piece_at z.order e a) = record { key = key; side = a; half = record { entry = e; pair = at; chunk = refl; start = refl; used = ap (use_of e) is ∙ other } } in
              (r.beside.canonical.free (piece_at z.order e a) ready b i).0
        ]

        inside : (b : ℕ) → InPiece whole b → IsFreeAt s whole.chunk b
        inside b i = elim (halves_of (piece_at z.order e Left) (piece_at z.order e Right) halves b i) [ inl l ↦ each Left b l | inr l ↦ each Right b l ]

        by_side : (a : Side) → a ≡ side → IsCanonicalBeside (IsReady Q) (IsFreeAt s) whole
        by_side Left is = record {
          aligned = aligned;
          inside = inside;
          canonical = join_right (piece_at z.order e Left) (piece_at z.order e Right) halves (IsReady P) (IsReady Q) (IsFreeAt s)
              (ready_with Q P z.order key e goes Right (ap (λ b. use_of e (other_side b)) is ∙ other) (λ f. in_hand_used (ap (use_of e) (sym is) ∙ f)))
              (not_ready_before Q P z.order key e goes Right (ap (λ b. use_of e (other_side b)) is ∙ other) (λ f. in_hand_used (ap (use_of e) (sym is) ∙ f)) s.chunks r.tree)
              (subst (λ x. IsCanonical (IsReady P) (Without (IsFreeAt s) x)) (in_hand_is ∙ ap (piece_at z.order e) (sym is)) r.beside.canonical);
        }
        by_side Right is = record {
          canonical = join_left (piece_at z.order e Left) (piece_at z.order e Right) halves (IsReady P) (IsReady Q) (IsFreeAt s)
              (ready_with Q P z.order key e goes Left (ap (λ b. use_of e (other_side b)) is ∙ other) (λ f. in_hand_used (ap (use_of e) (sym is) ∙ f)))
              (not_ready_before Q P z.order key e goes Left (ap (λ b. use_of e (other_side b)) is ∙ other) (λ f. in_hand_used (ap (use_of e) (sym is) ∙ f)) s.chunks r.tree)
              (subst (λ x. IsCanonical (IsReady P) (Without (IsFreeAt s) x)) (in_hand_is ∙ ap (piece_at z.order e) (sym is)) r.beside.canonical);
          aligned = aligned;
          inside = inside;
        }

    -- It divided a half, which is in hand now.
    pub next_divided : (p : Parent) → e.parent ≡ Some p → IsHalf Q whole p.key p.side Divided
    next_divided p parent =
        let d = subst (IsPlaced P s.chunks z.order e) parent (r.tree.placed z.order key e at) in
        record {
          entry = d.above;
          pair = elim (pair_cases Q P z.order key e goes (z.order + 1) p.key d.above d.pair) [ inl here ↦ absurd (omega (arith, here.0)) | inr was ↦ was ];
          chunk = d.chunk;
          start = d.offset;
          used = d.divided;
        }

    pub returns_next : (p : Parent) → e.parent ≡ Some p → IsReturning Q s whole p.key p.side
    returns_next p parent = record {
      tree = merged_tree;
      now = Divided;
      half = next_divided p parent;
      used = λ x. cc;
      whole = λ below child f step there also. only below child f step there also;
      beside = merged_beside;
    }
      where
        -- the pair that went was the only one that divided it
        only : (below child : ℕ) (f : Entry) → below + 1 ≡ z.order + 1 → Q below child ≡ Some f → f.parent ≡ Some (record { key = p.key; side = p.side }) → ⊥
        only below child f step there also =
            let same_order : below ≡ z.order = omega (arith, step) in
            let here : Q z.order child ≡ Some f = subst (λ n. Q n child ≡ Some f) same_order there in
            let was : P z.order child ≡ Some f = pair_kept Q P z.order key e goes z.order child f here in
            let d = subst (IsPlaced P s.chunks z.order e) parent (r.tree.placed z.order key e at) in
            let g = subst (IsPlaced P s.chunks z.order f) also (r.tree.placed z.order child f was) in
            let above : g.above ≡ d.above = one_entry (P (z.order + 1) p.key) g.above d.above g.pair d.pair in
            let chunk : f.chunk ≡ e.chunk = g.chunk ∙ ap (λ (x : Entry). x.chunk) above ∙ sym d.chunk in
            let offset : f.offset ≡ e.offset = g.offset ∙ ap (λ (x : Entry). half_start (2 ^ (z.order + 1)) x.offset p.side) above ∙ sym d.offset in
            let same : child ≡ key = r.tree.one_place z.order child key f e was at chunk offset in
            no_entry (Q z.order key) f goes.vacant (subst (λ n. Q z.order n ≡ Some f) same here)

    -- It was its whole chunk, in which no other pair lies.
    module _ (none : e.parent ≡ None) where
      pub root : IsRoot s.chunks z.order e
      root = subst (IsPlaced P s.chunks z.order e) none (r.tree.placed z.order key e at)

      lies_below : (n k : ℕ) (f : Entry) → Q n k ≡ Some f → f.chunk ≡ e.chunk → n ≤ z.order
      lies_below n k f there named =
          let l = merged_tree.inside n k f there in
          let same : l.chunk ≡ root.chunk = one_value _ l.chunk root.chunk (ap (finite.get s.chunks) (sym named) ∙ l.held) root.held in
          let short : n + 1 ≤ z.order + 1 = order-le (n + 1) (z.order + 1) (omega (arith, l.inside, ap (λ (c : Chunk). c.size) same, root.size)) in
          omega (arith, short)

      -- it would be the one that went
      no_second : (k : ℕ) (f : Entry) → Q z.order k ≡ Some f → f.chunk ≡ e.chunk → ⊥
      no_second k f there named =
          let l = merged_tree.inside z.order k f there in
          let same : l.chunk ≡ root.chunk = one_value _ l.chunk root.chunk (ap (finite.get s.chunks) (sym named) ∙ l.held) root.held in
          let start : f.offset ≡ e.offset = omega (arith, l.inside, ap (λ (c : Chunk). c.size) same, root.size, root.offset) in
          let is : k ≡ key = r.tree.one_place z.order k key f e (pair_kept Q P z.order key e goes z.order k f there) at named start in
          no_entry (Q z.order key) f goes.vacant (subst (λ n. Q z.order n ≡ Some f) is there)

      -- it would be as long as the chunk, or divide another
      by_parent : (n : ℕ) (f : Entry) → n < z.order → f.chunk ≡ e.chunk → ((p : Parent) → Divides Q n f p → ⊥) → (o : Option Parent) → IsPlaced Q s.chunks n f o → ⊥
      by_parent n f short named never None place =
          let same : place.chunk ≡ root.chunk = one_value _ place.chunk root.chunk (ap (finite.get s.chunks) (sym named) ∙ place.held) root.held in
          let long : z.order + 1 ≤ n + 1 = order-le (z.order + 1) (n + 1) (omega (arith, place.size, root.size, ap (λ (c : Chunk). c.size) same)) in
          omega (arith, short, long)
      by_parent n f short named never (Some p) d = never p d

      -- by how far its length is from the chunk's
      no_pair : (m n k : ℕ) (f : Entry) → n + m ≡ z.order → Q n k ≡ Some f → f.chunk ≡ e.chunk → ⊥
      no_pair zero n k f far there named = no_second k f (subst (λ i. Q i k ≡ Some f) (omega (arith, far)) there) named
      no_pair (suc m) n k f far there named =
          by_parent n f (omega (arith, far)) named (λ p d. no_pair m (n + 1) p.key d.above (omega (arith, far)) d.pair (sym d.chunk ∙ named)) f.parent (merged_tree.placed n k f there)

      pub alone : (n k : ℕ) (f : Entry) → Q n k ≡ Some f → f.chunk ≡ e.chunk → ⊥
      alone n k f there named = let le = lies_below n k f there named in no_pair (z.order - n) n k f (omega (arith, le)) there named
