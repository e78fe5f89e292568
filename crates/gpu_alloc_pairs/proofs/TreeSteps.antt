-- One pair changes: a half of it gets another use, or it is added or removed. What stays a tree, and which halves there
-- are.
use Rattle.std.proofs.Common.{◌≡◌, ℕ, ◌+◌, ◌^◌, ◌⊎◌, inl, inr, Option, Some, None, refl, sym, ◌∙◌, ap, subst, arith}
use Rattle.std.proofs.lemmas.Bool.{cases_eq}
use Rattle.std.specs.FinMap as finite
use Rattle.gpu_alloc_base.specs.Accounts.{HeldChunks}
use Rattle.gpu_alloc_base.specs.FreeSpace.{IsMultipleOf}
use Rattle.gpu_alloc_base.specs.Pieces.{IsWith}
use Rattle.gpu_alloc_base.specs.declared.piece.Piece.{Piece}
use Rattle.gpu_alloc_pairs.specs.Entry.{Entry, use_of, with_use, other_side, half_start}
use Rattle.gpu_alloc_pairs.specs.InHand.{SetsHalf, AddsPair}
use Rattle.gpu_alloc_pairs.specs.Tree.{Pairs, IsHalf, IsReady, Divides, IsPlaced, IsUndivided, PairLiesIn, IsTree}
use Rattle.gpu_alloc_pairs.specs.declared.pair.Parent.{Parent}
use Rattle.gpu_alloc_pairs.specs.declared.pair.Side.{Side}
use Rattle.gpu_alloc_pairs.specs.declared.pair.Side.TheVariants.{Left, Right}
use Rattle.gpu_alloc_pairs.specs.declared.pair.Use.{Use}
use Rattle.gpu_alloc_pairs.specs.declared.pair.Use.TheVariants.{Free, Divided}
use Rattle.gpu_alloc_pairs.proofs.Trees.{cases_side, use_now, use_beside, same_chunk_with, same_offset_with, same_parent_with, piece_at, half_of, piece_is, one_entry, no_entry, one_half, one_use, side_or_other}

-- either the pair at a place, or another
pub here_or_not : (order key n k : ℕ) → ((n ≡ order) × (k ≡ key)) ⊎ (n ≡ order → k ≡ key → ⊥)
here_or_not order key n k = elim (cases_eq n order) [
  | inl a ↦ elim (cases_eq k key) [ inl b ↦ inl (a, b) | inr b ↦ inr (λ _ y. b y) ]
  | inr a ↦ inr (λ x _. absurd (a x))
]

-- the pair at a place that is said in two ways
pub at_place : (P : Pairs) (order key n k : ℕ) (e : Entry) → n ≡ order → k ≡ key → P n k ≡ Some e → P order key ≡ Some e
at_place P order key n k e same also at = subst (λ m. P m key ≡ Some e) same (subst (λ m. P n m ≡ Some e) also at)

-- a half of another entry, or the other half of this one, is the same where only this half's use changes
half_moved : (P Q : Pairs) (order key : ℕ) (side : Side) (e f : Entry) → P order key ≡ Some e → Q order key ≡ Some f → f.chunk ≡ e.chunk → f.offset ≡ e.offset → ((a : Side) → (a ≡ side → ⊥) → use_of f a ≡ use_of e a) → ((n k : ℕ) → (n ≡ order → k ≡ key → ⊥) → Q n k ≡ P n k)
    → (p : Piece) (k : ℕ) (a : Side) (u : Use) → (p.order ≡ order → k ≡ key → a ≡ side → ⊥) → IsHalf P p k a u → IsHalf Q p k a u
half_moved P Q order key side e f was there chunk offset used others p k a u other h = elim (here_or_not order key p.order k) [
  | inl here ↦
      let is : h.entry ≡ e = one_entry (P order key) h.entry e (at_place P order key p.order k h.entry here.0 here.1 h.pair) was in
      record {
        entry = f;
        pair = subst (λ m. Q m k ≡ Some f) (sym here.0) (subst (λ m. Q order m ≡ Some f) (sym here.1) there);
        chunk = h.chunk ∙ ap (λ (x : Entry). x.chunk) is ∙ sym chunk;
        start = h.start ∙ ap (λ (x : Entry). half_start (2 ^ p.order) x.offset a) is ∙ ap (λ n. half_start (2 ^ p.order) n a) (sym offset);
        used = used a (other here.0 here.1) ∙ ap (λ (x : Entry). use_of x a) (sym is) ∙ h.used;
      }
  | inr beside ↦ record { entry = h.entry; pair = others p.order k beside ∙ h.pair; chunk = h.chunk; start = h.start; used = h.used }
]

-- A half is used otherwise.

module _ (P Q : Pairs) (order key : ℕ) (side : Side) (e : Entry) (now : Use) (s : SetsHalf P Q order key side e now) where
  abbrev now_e : Entry
  now_e = with_use e side now

  -- what is there now, and what was there
  is_now : (n k : ℕ) (f : Entry) → n ≡ order → k ≡ key → Q n k ≡ Some f → f ≡ now_e
  is_now n k f a b at = one_entry (Q order key) f now_e (at_place Q order key n k f a b at) s.there

  was_there : (n k : ℕ) (f : Entry) → n ≡ order → k ≡ key → P n k ≡ Some f → f ≡ e
  was_there n k f a b at = one_entry (P order key) f e (at_place P order key n k f a b at) s.was

  -- each pair has its like before, which lies there and has its parent
  pub record Like (n k : ℕ) (f : Entry) : Type 0 where
    pub before : Entry
    pub at : P n k ≡ Some before
    pub chunk : f.chunk ≡ before.chunk
    pub offset : f.offset ≡ before.offset
    pub parent : f.parent ≡ before.parent

  pub like : (n k : ℕ) (f : Entry) → Q n k ≡ Some f → Like n k f
  like n k f at = elim (here_or_not order key n k) [
    | inl here ↦
        let is : f ≡ now_e = is_now n k f here.0 here.1 at in
        record {
          before = e;
          at = subst (λ m. P m k ≡ Some e) (sym here.0) (subst (λ m. P order m ≡ Some e) (sym here.1) s.was);
          chunk = ap (λ (x : Entry). x.chunk) is ∙ same_chunk_with e side now;
          offset = ap (λ (x : Entry). x.offset) is ∙ same_offset_with e side now;
          parent = ap (λ (x : Entry). x.parent) is ∙ same_parent_with e side now;
        }
    | inr other ↦ record { before = f; at = sym (s.others n k other) ∙ at; chunk = refl; offset = refl; parent = refl }
  ]

  -- a half is what it was, but for this one
  pub half_kept : (p : Piece) (k : ℕ) (a : Side) (u : Use) → (p.order ≡ order → k ≡ key → a ≡ side → ⊥) → IsHalf P p k a u → IsHalf Q p k a u
  half_kept = half_moved P Q order key side e now_e s.was s.there (same_chunk_with e side now) (same_offset_with e side now) (λ a other. use_beside e side a now other) s.others

  pub half_back : (p : Piece) (k : ℕ) (a : Side) (u : Use) → (p.order ≡ order → k ≡ key → a ≡ side → ⊥) → IsHalf Q p k a u → IsHalf P p k a u
  half_back = half_moved Q P order key side now_e e s.there s.was (sym (same_chunk_with e side now)) (sym (same_offset_with e side now)) (λ a other. sym (use_beside e side a now other)) (λ n k other. sym (s.others n k other))

  -- this one is used as it is set
  pub half_set : IsHalf Q (piece_at order e side) key side now
  half_set = record {
    entry = now_e;
    pair = s.there;
    chunk = sym (same_chunk_with e side now);
    start = ap (λ n. half_start (2 ^ order) n side) (sym (same_offset_with e side now));
    used = use_now e side now;
  }

  -- and is no other piece
  pub piece_set : (p : Piece) (k : ℕ) (a : Side) (u : Use) → p.order ≡ order → k ≡ key → a ≡ side → IsHalf Q p k a u → (p ≡ piece_at order e side) × (u ≡ now)
  piece_set p k a u same also side_is h =
      let is : h.entry ≡ now_e = is_now p.order k h.entry same also h.pair in (
        piece_is Q p k a u h ∙ ap (λ n. piece_at n h.entry a) same ∙ ap (λ x. piece_at order x a) is ∙ ap (λ b. piece_at order now_e b) side_is ∙ lies e side,
        sym h.used ∙ ap (λ (x : Entry). use_of x a) is ∙ ap (use_of now_e) side_is ∙ use_now e side now,
      )
    where
      lies : (f : Entry) (b : Side) → piece_at order (with_use f b now) b ≡ piece_at order f b
      lies f Left = refl
      lies f Right = refl

  -- it stays a tree where the half is not divided, or may be
  module _ (chunks : HeldChunks) (t : IsTree P chunks) (whole : (now ≡ Divided) ⊎ IsUndivided P order key side) where
    divides : (n k : ℕ) (f : Entry) (p : Parent) → P n k ≡ Some f → f.parent ≡ Some p → Divides P n f p → Divides Q n f p
    divides n k f p at parent d = elim (here_or_not order key (n + 1) p.key) [
      | inl here ↦
          let is : d.above ≡ e = was_there (n + 1) p.key d.above here.0 here.1 d.pair in
          record {
            above = now_e;
            pair = subst (λ m. Q m p.key ≡ Some now_e) (sym here.0) (subst (λ m. Q order m ≡ Some now_e) (sym here.1) s.there);
            divided = still here.0 here.1 is;
            chunk = d.chunk ∙ ap (λ (x : Entry). x.chunk) is ∙ sym (same_chunk_with e side now);
            offset = d.offset ∙ ap (λ (x : Entry). half_start (2 ^ (n + 1)) x.offset p.side) is ∙ ap (λ m. half_start (2 ^ (n + 1)) m p.side) (sym (same_offset_with e side now));
          }
      | inr other ↦ record { above = d.above; pair = s.others (n + 1) p.key other ∙ d.pair; divided = d.divided; chunk = d.chunk; offset = d.offset }
    ]
      where
        still : n + 1 ≡ order → p.key ≡ key → d.above ≡ e → use_of now_e p.side ≡ Divided
        still step named is = elim (cases_side p.side side) [
          | inl same ↦ elim whole [
            | inl said ↦ ap (use_of now_e) same ∙ use_now e side now ∙ said
            | inr none ↦ absurd (none n k f step at (parent ∙ ap Some (λ i. record { key = named i; side = same i })))
          ]
          | inr other ↦ use_beside e side p.side now other ∙ ap (λ (x : Entry). use_of x p.side) (sym is) ∙ d.divided
        ]

    placed : (n k : ℕ) (f : Entry) (o : Option Parent) → P n k ≡ Some f → f.parent ≡ o → IsPlaced P chunks n f o → IsPlaced Q chunks n f o
    placed n k f None at parent root = root
    placed n k f (Some p) at parent d = divides n k f p at parent d

    -- what lies as another does, and has its parent, is placed as that one is
    placed_as : (n : ℕ) (f g : Entry) (o : Option Parent) → g.chunk ≡ f.chunk → g.offset ≡ f.offset → IsPlaced Q chunks n f o → IsPlaced Q chunks n g o
    placed_as n f g None chunk offset root = record { chunk = root.chunk; held = ap (λ c. finite.get chunks c) chunk ∙ root.held; size = root.size; offset = offset ∙ root.offset }
    placed_as n f g (Some p) chunk offset d = record { above = d.above; pair = d.pair; divided = d.divided; chunk = chunk ∙ d.chunk; offset = offset ∙ d.offset }

    pub tree_after_set : IsTree Q chunks
    tree_after_set = record {
      placed = λ n k f at.
          let l = like n k f at in
          subst (IsPlaced Q chunks n f) (sym l.parent) (placed_as n l.before f l.before.parent l.chunk l.offset (placed n k l.before l.before.parent l.at refl (t.placed n k l.before l.at)));
      aligned = λ n k f at. let l = like n k f at in subst (IsMultipleOf (2 ^ (n + 1))) (sym l.offset) (t.aligned n k l.before l.at);
      inside = λ n k f at.
          let l = like n k f at in
          let i = t.inside n k l.before l.at in
          record { chunk = i.chunk; held = ap (λ c. finite.get chunks c) l.chunk ∙ i.held; inside = omega (arith, i.inside, l.offset) };
      one_place = λ n k l f g at_f at_g chunk offset.
          let a = like n k f at_f in
          let b = like n l g at_g in
          t.one_place n k l a.before b.before a.at b.at (sym a.chunk ∙ chunk ∙ b.chunk) (sym a.offset ∙ offset ∙ b.offset);
    }

  -- Free halves, as one is added or removed.

  -- a half is this one, or another
  pub this_or_other : (p : Piece) (k : ℕ) (a : Side) → ((p.order ≡ order) × ((k ≡ key) × (a ≡ side))) ⊎ (p.order ≡ order → k ≡ key → a ≡ side → ⊥)
  this_or_other p k a = elim (here_or_not order key p.order k) [
    | inl here ↦ elim (cases_side a side) [ inl same ↦ inl (here.0, (here.1, same)) | inr other ↦ inr (λ _ _ same. other same) ]
    | inr other ↦ inr (λ x y _. other x y)
  ]

  abbrev z : Piece
  z = piece_at order e side

  -- what is used otherwise than this half was and is, is so before and after
  module _ (u : Use) (changed : now ≡ u → ⊥) where
    -- it is not used so any more
    pub half_less : (p : Piece) (k : ℕ) (a : Side) → IsHalf Q p k a u → IsHalf P p k a u
    half_less p k a h = elim (this_or_other p k a) [
      | inl this ↦ absurd (changed (sym (piece_set p k a u this.0 this.1.0 this.1.1 h).1))
      | inr other ↦ half_back p k a u other h
    ]

    pub half_gone : (k : ℕ) (a : Side) → IsHalf Q z k a u → (chunks : HeldChunks) → IsTree Q chunks → ⊥
    half_gone k a h chunks t = changed (sym (one_use Q chunks t z k key a side u now h half_set))

  pub ready_less : use_of e side ≡ Free → (now ≡ Free → ⊥) → IsWith (IsReady Q) (IsReady P) z
  ready_less was used = record {
    kept = λ p r. record { key = r.key; side = r.side; half = half_less Free used p r.key r.side r.half };
    added = record { key = key; side = side; half = record { entry = e; pair = s.was; chunk = refl; start = refl; used = was } };
    cases = λ p r. elim (this_or_other p r.key r.side) [
      | inl this ↦ inl (
          let is : r.half.entry ≡ e = was_there p.order r.key r.half.entry this.0 this.1.0 r.half.pair in
          piece_is P p r.key r.side Free r.half ∙ ap (λ n. piece_at n r.half.entry r.side) this.0 ∙ ap (λ x. piece_at order x r.side) is ∙ ap (λ b. piece_at order e b) this.1.1)
      | inr other ↦ inr (record { key = r.key; side = r.side; half = half_kept p r.key r.side Free other r.half })
    ];
  }

  pub ready_more : (use_of e side ≡ Free → ⊥) → now ≡ Free → IsWith (IsReady P) (IsReady Q) z
  ready_more was free = record {
    kept = λ p r. elim (this_or_other p r.key r.side) [
      | inl this ↦ absurd (was (
          let is : r.half.entry ≡ e = was_there p.order r.key r.half.entry this.0 this.1.0 r.half.pair in
          ap (use_of e) (sym this.1.1) ∙ ap (λ (x : Entry). use_of x r.side) (sym is) ∙ r.half.used))
      | inr other ↦ record { key = r.key; side = r.side; half = half_kept p r.key r.side Free other r.half }
    ];
    added = record { key = key; side = side; half = subst (IsHalf Q z key side) free half_set };
    cases = λ p r. elim (this_or_other p r.key r.side) [
      | inl this ↦ inl (piece_set p r.key r.side Free this.0 this.1.0 this.1.1 r.half).0
      | inr other ↦ inr (record { key = r.key; side = r.side; half = half_back p r.key r.side Free other r.half })
    ];
  }

-- A pair is added or removed.

module _ (P Q : Pairs) (order key : ℕ) (e : Entry) (s : AddsPair P Q order key e) where
  -- what was there is elsewhere
  elsewhere : (n k : ℕ) (f : Entry) → P n k ≡ Some f → n ≡ order → k ≡ key → ⊥
  elsewhere n k f at a b = no_entry (P order key) f s.vacant (at_place P order key n k f a b at)

  pub pair_kept : (n k : ℕ) (f : Entry) → P n k ≡ Some f → Q n k ≡ Some f
  pair_kept n k f at = s.others n k (elsewhere n k f at) ∙ at

  -- a pair is the one that came, or was there
  pub pair_cases : (n k : ℕ) (f : Entry) → Q n k ≡ Some f → ((n ≡ order) × ((k ≡ key) × (f ≡ e))) ⊎ (P n k ≡ Some f)
  pair_cases n k f at = elim (here_or_not order key n k) [
    | inl here ↦ inl (here.0, (here.1, one_entry (Q order key) f e (at_place Q order key n k f here.0 here.1 at) s.there))
    | inr other ↦ inr (sym (s.others n k other) ∙ at)
  ]

  pub half_stays : (p : Piece) (k : ℕ) (a : Side) (u : Use) → IsHalf P p k a u → IsHalf Q p k a u
  half_stays p k a u h = record { entry = h.entry; pair = pair_kept p.order k h.entry h.pair; chunk = h.chunk; start = h.start; used = h.used }

  -- a half is one of the pair that came, or was there
  pub half_cases : (p : Piece) (k : ℕ) (a : Side) (u : Use) → IsHalf Q p k a u → ((k ≡ key) × ((p ≡ piece_at order e a) × (use_of e a ≡ u))) ⊎ IsHalf P p k a u
  half_cases p k a u h = elim (pair_cases p.order k h.entry h.pair) [
    | inl here ↦ inl (
      here.1.0,
      (
        piece_is Q p k a u h ∙ ap (λ n. piece_at n h.entry a) here.0 ∙ ap (λ x. piece_at order x a) here.1.1,
        ap (λ (x : Entry). use_of x a) (sym here.1.1) ∙ h.used,
      ),
    )
    | inr was ↦ inr (record { entry = h.entry; pair = was; chunk = h.chunk; start = h.start; used = h.used })
  ]

  pub half_added : (a : Side) → IsHalf Q (piece_at order e a) key a (use_of e a)
  half_added a = half_of Q order key e a s.there

  divides_kept : (n : ℕ) (f : Entry) (o : Option Parent) (chunks : HeldChunks) → IsPlaced P chunks n f o → IsPlaced Q chunks n f o
  divides_kept n f None chunks root = root
  divides_kept n f (Some p) chunks d = record { above = d.above; pair = pair_kept (n + 1) p.key d.above d.pair; divided = d.divided; chunk = d.chunk; offset = d.offset }

  -- a pair comes that is placed, where none is
  pub tree_with : (chunks : HeldChunks) → IsTree P chunks → IsPlaced P chunks order e e.parent → IsMultipleOf (2 ^ (order + 1)) e.offset → PairLiesIn chunks order e
      → ((k : ℕ) (f : Entry) → P order k ≡ Some f → f.chunk ≡ e.chunk → f.offset ≡ e.offset → ⊥) → IsTree Q chunks
  tree_with chunks t place aligned inside alone = record {
    placed = λ n k f at. elim (pair_cases n k f at) [
      | inl here ↦ divides_kept n f f.parent chunks (subst (λ m. IsPlaced P chunks m f f.parent) (sym here.0) (subst (λ (x : Entry). IsPlaced P chunks order x x.parent) (sym here.1.1) place))
      | inr was ↦ divides_kept n f f.parent chunks (t.placed n k f was)
    ];
    aligned = λ n k f at. elim (pair_cases n k f at) [
      | inl here ↦ subst (λ m. IsMultipleOf (2 ^ (m + 1)) f.offset) (sym here.0) (subst (λ (x : Entry). IsMultipleOf (2 ^ (order + 1)) x.offset) (sym here.1.1) aligned)
      | inr was ↦ t.aligned n k f was
    ];
    inside = λ n k f at. elim (pair_cases n k f at) [
      | inl here ↦ subst (λ m. PairLiesIn chunks m f) (sym here.0) (subst (λ (x : Entry). PairLiesIn chunks order x) (sym here.1.1) inside)
      | inr was ↦ t.inside n k f was
    ];
    one_place = λ n k l f g at_f at_g chunk offset. elim (pair_cases n k f at_f) [
      | inl f_is ↦ elim (pair_cases n l g at_g) [
        | inl g_is ↦ f_is.1.0 ∙ sym g_is.1.0
        | inr g_was ↦ absurd (alone l g (subst (λ m. P m l ≡ Some g) f_is.0 g_was) (sym chunk ∙ ap (λ (x : Entry). x.chunk) f_is.1.1) (sym offset ∙ ap (λ (x : Entry). x.offset) f_is.1.1))
      ]
      | inr f_was ↦ elim (pair_cases n l g at_g) [
        | inl g_is ↦ absurd (alone k f (subst (λ m. P m k ≡ Some f) g_is.0 f_was) (chunk ∙ ap (λ (x : Entry). x.chunk) g_is.1.1) (offset ∙ ap (λ (x : Entry). x.offset) g_is.1.1))
        | inr g_was ↦ t.one_place n k l f g f_was g_was chunk offset
      ]
    ];
  }

  -- a pair goes that is not divided
  pub tree_without : (chunks : HeldChunks) → IsTree Q chunks → ((a : Side) → IsUndivided Q order key a) → IsTree P chunks
  tree_without chunks t whole = record {
    placed = λ n k f at. back n k f f.parent (pair_kept n k f at) refl (t.placed n k f (pair_kept n k f at));
    aligned = λ n k f at. t.aligned n k f (pair_kept n k f at);
    inside = λ n k f at. t.inside n k f (pair_kept n k f at);
    one_place = λ n k l f g at_f at_g. t.one_place n k l f g (pair_kept n k f at_f) (pair_kept n l g at_g);
  }
    where
      back : (n k : ℕ) (f : Entry) (o : Option Parent) → Q n k ≡ Some f → f.parent ≡ o → IsPlaced Q chunks n f o → IsPlaced P chunks n f o
      back n k f None at parent root = root
      back n k f (Some p) at parent d = elim (pair_cases (n + 1) p.key d.above d.pair) [
        | inl here ↦ absurd (whole p.side n k f here.0 at (parent ∙ ap Some (λ i. record { key = here.1.0 i; side = p.side })))
        | inr was ↦ record { above = d.above; pair = was; divided = d.divided; chunk = d.chunk; offset = d.offset }
      ]

  -- Where one half of it is free, the free halves have that one more.
  module _ (side : Side) (free : use_of e side ≡ Free) (used : use_of e (other_side side) ≡ Free → ⊥) where
    pub ready_with : IsWith (IsReady P) (IsReady Q) (piece_at order e side)
    ready_with = record {
      kept = λ p r. record { key = r.key; side = r.side; half = half_stays p r.key r.side Free r.half };
      added = record { key = key; side = side; half = subst (IsHalf Q (piece_at order e side) key side) free (half_added side) };
      cases = λ p r. elim (half_cases p r.key r.side Free r.half) [
        | inl here ↦ elim (side_or_other side r.side) [
          | inl same ↦ inl (here.1.0 ∙ ap (λ b. piece_at order e b) same)
          | inr other ↦ absurd (used (ap (use_of e) (sym other) ∙ here.1.1))
        ]
        | inr was ↦ inr (record { key = r.key; side = r.side; half = was })
      ];
    }

    pub not_ready_before : (chunks : HeldChunks) → IsTree Q chunks → IsReady P (piece_at order e side) → ⊥
    not_ready_before chunks t r =
        let same = one_half Q chunks t (piece_at order e side) r.key key r.side side Free (use_of e side) (half_stays _ r.key r.side Free r.half) (half_added side) in
        no_entry (P order key) r.half.entry s.vacant (subst (λ k. P order k ≡ Some r.half.entry) same.0 r.half.pair)
