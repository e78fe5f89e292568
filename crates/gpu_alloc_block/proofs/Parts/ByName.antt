-- Chunks by key and rows as a part, as one is added or removed.
use Rattle.std.proofs.Common.{◌≡◌, ◌≢◌, inl, inr, ℕ, IsTrue, Some, None, refl, sym, ◌∙◌, ap, subst}
use Rattle.std.proofs.lemmas.Bool.{cases_eq}
use Rattle.std.specs.Cmp.{IsTotalOrder, nat_cmp_total}
use Rattle.std.specs.declared.cmp.Ordering.{Ordering}
use Rattle.std.specs.FinMap as finite
use Rattle.std.specs.FinMap.{IsAntisymmetric, nat_cmp-IsAntisymmetric}
use Rattle.std.specs.FinSet as set
use Rattle.gpu_alloc_base.specs.Chunks.{Chunk}
use Rattle.gpu_alloc_base.proofs.ListSets.{in_inserted, in_removed, same_or_left}
use Rattle.gpu_alloc_base.proofs.ListViews.{IsMore, IsLess, IsOneToOne, seek_name, named_there, named_absent, named_more, named_less, names_more, names_less, in_names}
use Rattle.gpu_alloc_base.proofs.Maps.{one_value, own_inserted, inserted_cases, inserted_kept, kept_key, kept_other}
use Rattle.gpu_alloc_block.specs.State.{HeldObject, Span}
use Rattle.gpu_alloc_block.proofs.LiveSpans.{span_total, span_exact}
use Rattle.gpu_alloc_block.specs.Parts.{Chunks, by_name, by_span, HaveOwnObjects}
use Rattle.gpu_alloc_block.proofs.Parts.Entries.{entry_there, there_entry, item_there}

abbrev Entry : Type 0
Entry = ℕ × Chunk

entries_more : (m : Chunks) (k : ℕ) (c : Chunk) → finite.get m k ≡ None → IsMore (finite.entries m) (finite.entries (finite.insert m k c)) (k, c)
entries_more m k c none = record {
  has = entry_there (finite.insert m k c) k c (own_inserted m k c);
  kept = λ e was. entry_there (finite.insert m k c) e.0 e.1 (inserted_kept m k c e.0 e.1 none (there_entry m e.0 e.1 was));
  cases = λ e now. elim (inserted_cases m k c e.0 e.1 (there_entry (finite.insert m k c) e.0 e.1 now)) [
    | inl is ↦ inl (λ i. (is.0 i, sym is.1 i))
    | inr was ↦ inr (entry_there m e.0 e.1 was)
  ];
}

entries_less : (m : Chunks) (k : ℕ) (c : Chunk) → finite.get m k ≡ Some c → IsLess (finite.entries m) (finite.entries (finite.remove m k)) (k, c)
entries_less m k c is = record {
  had = entry_there m k c is;
  kept = λ e now.
      let left = kept_key m k e.0 e.1 (there_entry (finite.remove m k) e.0 e.1 now) in
      (λ same. left.0 (ap (λ (x : Entry). x.0) same), entry_there m e.0 e.1 left.1);
  cases = λ e was.
      let at = there_entry m e.0 e.1 was in
      elim (cases_eq e.0 k) [
        | inl same ↦ inl (let value : e.1 ≡ c = one_value (finite.get m k) e.1 c (subst (λ n. finite.get m n ≡ Some e.1) same at) is in λ i. (same i, value i))
        | inr other ↦ inr (entry_there (finite.remove m k) e.0 e.1 (kept_other m k e.0 other ∙ at))
      ];
}

-- no two entries have one object
once_of : (m : Chunks) → HaveOwnObjects m → IsOneToOne (λ (e : Entry). e.1.object) (finite.entries m)
once_of m named a b has_a has_b same =
    let at_a = there_entry m a.0 a.1 has_a in
    let at_b = there_entry m b.0 b.1 has_b in
    let key = named a.0 b.0 a.1 b.1 at_a at_b same in
    let value : a.1 ≡ b.1 = one_value (finite.get m b.0) a.1 b.1 (subst (λ n. finite.get m n ≡ Some a.1) key at_a) at_b in
    λ i. (key i, value i)

-- what is held under a name is a chunk's
pub name_was : (g : ℕ → Chunk → HeldObject) (m : Chunks) → HaveOwnObjects m → (name : ℕ) (h : HeldObject) → finite.get (by_name g m) name ≡ Some h → (key : ℕ) × (c : Chunk) × (finite.get m key ≡ Some c) × (c.object ≡ name) × (g key c ≡ h)
name_was g m named name h is = elim (seek_name nat_cmp_total nat_cmp-IsAntisymmetric (λ (e : Entry). e.1.object) (λ e. g e.0 e.1) (finite.entries m) name) [
  | inl found ↦
      let at = there_entry m found.0.0 found.0.1 found.1 in
      let there = named_there nat_cmp_total nat_cmp-IsAntisymmetric (λ (e : Entry). e.1.object) (λ e. g e.0 e.1) (finite.entries m) found.0 (once_of m named) found.1 in
      (found.0.0, found.0.1, at, found.2, one_value _ (g found.0.0 found.0.1) h there (ap (finite.get (by_name g m)) found.2 ∙ is))
  | inr none ↦ absurd (let absent = named_absent nat_cmp_total nat_cmp-IsAntisymmetric (λ (e : Entry). e.1.object) (λ e. g e.0 e.1) (finite.entries m) name none in cc)
]

-- names stay apart

pub named_after : (m : Chunks) (k : ℕ) (c : Chunk) → HaveOwnObjects m → ((i : ℕ) (a : Chunk) → finite.get m i ≡ Some a → a.object ≢ c.object) → HaveOwnObjects (finite.insert m k c)
named_after m k c named fresh i j a b at_i at_j same = elim (inserted_cases m k c i a at_i) [
  | inl x ↦ elim (inserted_cases m k c j b at_j) [
    | inl y ↦ x.0 ∙ sym y.0
    | inr y ↦ absurd (fresh j b y (sym same ∙ ap (λ (z : Chunk). z.object) (sym x.1)))
  ]
  | inr x ↦ elim (inserted_cases m k c j b at_j) [
    | inl y ↦ absurd (fresh i a x (same ∙ ap (λ (z : Chunk). z.object) (sym y.1)))
    | inr y ↦ named i j a b x y same
  ]
]

module _ (g : ℕ → Chunk → HeldObject) (m : Chunks) (named : HaveOwnObjects m) where
  -- what is held under a name
  pub name_there : (k : ℕ) (c : Chunk) → finite.get m k ≡ Some c → finite.get (by_name g m) c.object ≡ Some (g k c)
  name_there k c is = named_there nat_cmp_total nat_cmp-IsAntisymmetric (λ (e : Entry). e.1.object) (λ e. g e.0 e.1) (finite.entries m) (k, c) (once_of m named) (entry_there m k c is)

  -- a chunk comes
  pub name_comes : (k : ℕ) (c : Chunk) → finite.get m k ≡ None → ((i : ℕ) (a : Chunk) → finite.get m i ≡ Some a → a.object ≢ c.object) → by_name g (finite.insert m k c) ≡ finite.insert (by_name g m) c.object (g k c)
  name_comes k c none fresh =
      named_more nat_cmp_total nat_cmp-IsAntisymmetric (λ (e : Entry). e.1.object) (λ e. g e.0 e.1) (finite.entries m) (finite.entries (finite.insert m k c)) (k, c) (once_of (finite.insert m k c) (named_after m k c named fresh)) (entries_more m k c none)

  -- and is removed
  pub name_goes : (k : ℕ) (c : Chunk) → finite.get m k ≡ Some c → by_name g (finite.remove m k) ≡ finite.remove (by_name g m) c.object
  name_goes k c is =
      named_less nat_cmp_total nat_cmp-IsAntisymmetric (λ (e : Entry). e.1.object) (λ e. g e.0 e.1) (finite.entries m) (finite.entries (finite.remove m k)) (k, c) (once_of m named) (entries_less m k c is)

-- a name that the part does not hold is no chunk's
pub fresh_name : (g : ℕ → Chunk → HeldObject) (m : Chunks) → HaveOwnObjects m → (name : ℕ) → finite.get (by_name g m) name ≡ None → (i : ℕ) (a : Chunk) → finite.get m i ≡ Some a → a.object ≢ name
fresh_name g m named name none i a at is = let there : finite.get (by_name g m) name ≡ Some (g i a) = subst (λ n. finite.get (by_name g m) n ≡ Some (g i a)) is (name_there g m named i a at) in absurd (cc)

-- Spans.

module _ {K : Type 0} {R : K → K → Ordering} (total : IsTotalOrder R) (exact : IsAntisymmetric R) (span : K → Span) (s : set.FinSet R) where
  -- a row's span is among them
  pub span_row_live : (k : K) → IsTrue (set.contains s k) → IsTrue (set.contains (by_span span s) (span k))
  span_row_live k live = (in_names span_total span_exact span (set.items s) (span k)).1 (k, (item_there total exact s k).0 live, refl)

  -- a span is a row's
  pub span_row_there : (q : Span) → IsTrue (set.contains (by_span span s) q) → (k : K) × IsTrue (set.contains s k) × (span k ≡ q)
  span_row_there q live = let row = (in_names span_total span_exact span (set.items s) q).0 live in (row.0, (item_there total exact s row.0).1 row.1, row.2)

  -- a row comes
  pub span_row_comes : (k : K) → by_span span (set.insert s k) ≡ set.insert (by_span span s) (span k)
  span_row_comes k = names_more span_total span_exact span (set.items s) (set.items (set.insert s k)) k (record {
    has = (item_there total exact (set.insert s k) k).0 ((in_inserted R total exact s k k).1 (inl refl));
    kept = λ a was. (item_there total exact (set.insert s k) a).0 ((in_inserted R total exact s k a).1 (inr ((item_there total exact s a).1 was)));
    cases = λ a now. elim ((in_inserted R total exact s k a).0 ((item_there total exact (set.insert s k) a).1 now)) [
      | inl is ↦ inl is
      | inr was ↦ inr ((item_there total exact s a).0 was)
    ];
  })

  -- and is removed, where no two live rows have one span
  pub span_row_goes : (k : K) → ((a b : K) → IsTrue (set.contains s a) → IsTrue (set.contains s b) → span a ≡ span b → a ≡ b) → IsTrue (set.contains s k) → by_span span (set.remove s k) ≡ set.remove (by_span span s) (span k)
  span_row_goes k once live = names_less span_total span_exact span (set.items s) (set.items (set.remove s k)) k
      (λ a b has_a has_b. once a b ((item_there total exact s a).1 has_a) ((item_there total exact s b).1 has_b)) (record {
        had = (item_there total exact s k).0 live;
        kept = λ a now. let left = (in_removed R total exact s k a).0 ((item_there total exact (set.remove s k) a).1 now) in (left.0, (item_there total exact s a).0 left.1);
        cases = λ a was. elim (same_or_left R total exact s k a ((item_there total exact s a).1 was)) [
          | inl is ↦ inl is
          | inr left ↦ inr ((item_there total exact (set.remove s k) a).0 left)
        ];
      })
