-- The chunks and the live blocks of any part, as they are listed and counted.
use Rattle.std.proofs.Common.{◌≡◌, ◌≢◌, inl, inr, ℕ, List, [], ◌∷◌, map, length, nat_eq, Option, option_map, Some, None, true, Equal, refl, sym, ◌∙◌, ap, subst}
use Rattle.std.proofs.lemmas.Bool.Decides.{same_from_decides}
use Rattle.std.proofs.lemmas.Map.Keys.{IsDistinct-tail}
use Rattle.std.specs.Bool.{Decides}
use Rattle.std.specs.Cmp.{IsTotalOrder, nat_cmp_total}
use Rattle.std.specs.FinMap as finite
use Rattle.std.specs.FinMap.{nat_cmp-IsAntisymmetric}
use Rattle.std.specs.FinSet as set
use Rattle.std.specs.List.{Contains, IsDistinct}
use Rattle.std.specs.Map.{keys_of}
use Rattle.std.specs.declared.cmp.Ordering.{Ordering}
use Rattle.std.specs.Ordering.{nat_cmp, eq_by_cmp}
use Rattle.slab.specs.Slab.{Slab, entries, get}
use Rattle.slab.proofs.SlabLemmas.{Contains-entries}
use Rattle.gpu_alloc_base.specs.Chunks.{Chunk}
use Rattle.gpu_alloc_base.specs.SlabViews.{by_key}
use Rattle.gpu_alloc_base.proofs.Lists.{contains_cases, contains_head, contains_later, contains_none, head_is_other}
use Rattle.gpu_alloc_base.proofs.ListSets.{in_set, key_test}
use Rattle.gpu_alloc_base.proofs.ListViews.{IsOneToOne, AreNamedApart, in_names, named_absent, named_len, named_there, seek_name}
use Rattle.gpu_alloc_base.proofs.SlabViews.{found_by_key, get_by_key}
use Rattle.gpu_alloc_block.specs.Parts.{Chunks, HaveOwnObjects, Held, by_name, by_span}
use Rattle.gpu_alloc_block.specs.State.{HeldObject, Span, span_cmp}
use Rattle.gpu_alloc_block.proofs.LiveSpans.{span_exact, span_total}
use Rattle.gpu_alloc_block.proofs.Parts.ByName.{name_there}
use Rattle.gpu_alloc_block.proofs.Parts.Entries.{item_there, there_entry}
use Rattle.gpu_alloc.specs.Listing.{AreOnce, IsRowOf}
use Rattle.gpu_alloc.specs.Spans.{held_entry_of, held_objects_in, held_of}
use Rattle.gpu_alloc.specs.declared.spans.HeldRow.{HeldRow}
use Rattle.gpu_alloc.proofs.Tables.Listed.{distinct_named, mapped_twice, once_named, rows_apart}

-- entries that are called apart are one where they are called the same
one_called : {E K : Type 0} (f : E → K) (es : List E) → AreNamedApart f es → IsOneToOne f es
one_called f [] apart a b has_a has_b same = absurd (contains_none a has_a)
one_called f (e ∷ es) apart a b has_a has_b same = elim (contains_cases e a es has_a) [
  | inl first ↦ elim (contains_cases e b es has_b) [
    | inl also ↦ first ∙ sym also
    | inr later ↦ absurd (apart.0 b later (sym same ∙ ap f first))
  ]
  | inr later ↦ elim (contains_cases e b es has_b) [
    | inl first ↦ absurd (apart.0 a later (same ∙ ap f first))
    | inr also ↦ one_called f es apart.1 a b later also same
  ]
]

-- Chunks, as a list has them: what it says of a chunk is held under the chunk's key, each chunk is in it, and no two have one
-- object.
pub record AreListed {E : Type 0} (key : E → ℕ) (said : E → Chunk) (chunks : Chunks) (listed : List E) : Type 0 where
  pub held : (e : E) → Contains listed e → finite.get chunks (key e) ≡ Some (said e)
  pub all : (k : ℕ) (c : Chunk) → finite.get chunks k ≡ Some c → (e : E) × Contains listed e × (said e ≡ c)
  pub apart : AreNamedApart (λ (e : E). (said e).object) listed

-- What is held under names, as rows of a list have it: the row that has a name is what is held under it, and none where none has
-- it; and they are all of it, each once.
pub record AreRowsOf {E : Type 0} (held : Held) (row : E → ℕ × HeldRow) (listed : List E) : Type 0 where
  pub found : (object : ℕ) (r : Option HeldRow) → IsRowOf row listed object r → option_map held_of r ≡ finite.get held object
  pub rows : held_objects_in (map row listed) ≡ held
  pub once : IsDistinct nat_eq (keys_of (map row listed))
  pub count : finite.len held ≡ length listed

module _ {E : Type 0} {key : E → ℕ} {said : E → Chunk} {chunks : Chunks} {listed : List E} (named : HaveOwnObjects chunks) (are : AreListed key said chunks listed)
    (object_of : ℕ → Chunk → HeldObject) (row : E → ℕ × HeldRow) where
  abbrev name : E → ℕ
  name e = (said e).object

  abbrev value : E → HeldObject
  value e = object_of (key e) (said e)

  abbrev held : Held
  held = by_name object_of chunks

  -- a listed chunk is held as it says
  listed_held : (e : E) → Contains listed e → finite.get held (name e) ≡ Some (value e)
  listed_held e has = name_there object_of chunks named (key e) (said e) (are.held e has)

  -- and no other is held
  unlisted_unheld : (q : ℕ) → ((e : E) → Contains listed e → name e ≢ q) → finite.get held q ≡ None
  unlisted_unheld q none =
      named_absent nat_cmp_total nat_cmp-IsAntisymmetric (λ (e : ℕ × Chunk). e.1.object) (λ e. object_of e.0 e.1) (finite.entries chunks) q (λ e has same.
      let its = are.all e.0 e.1 (there_entry chunks e.0 e.1 has) in
      none its.0 its.1 (ap (λ (c : Chunk). c.object) its.2 ∙ same))

  by_rows : finite.from_entries {R = nat_cmp} (map (λ (e : E). (name e, value e)) listed) ≡ held
  by_rows = finite.same_map nat_cmp_total nat_cmp-IsAntisymmetric _ _ (λ q. elim (seek_name nat_cmp_total nat_cmp-IsAntisymmetric name (λ e. e) listed q) [
    | inl found ↦ subst (λ n. finite.get (finite.from_entries {R = nat_cmp} (map (λ (e : E). (name e, value e)) listed)) n ≡ finite.get held n) found.2
        (named_there nat_cmp_total nat_cmp-IsAntisymmetric name value listed found.0 (one_called name listed are.apart) found.1 ∙ sym (listed_held found.0 found.1))
    | inr none ↦ named_absent nat_cmp_total nat_cmp-IsAntisymmetric name value listed q none ∙ sym (unlisted_unheld q none)
  ])

  pub rows_of : ((e : E) → ◌≡◌ {A = ℕ × HeldObject} (held_entry_of (row e)) (name e, value e)) → AreRowsOf held row listed
  rows_of says = record {
    found = found;
    rows = ap (λ (es : List (ℕ × HeldObject)). finite.from_entries es) (mapped_twice row held_entry_of (λ e. (name e, value e)) says listed) ∙ by_rows;
    once = subst (IsDistinct nat_eq) (sym (mapped_twice row (λ x. x.0) name named_so listed)) (distinct_named name listed are.apart);
    count = ap (λ (m : Held). finite.len m) (sym by_rows) ∙ named_len nat_cmp_total nat_cmp-IsAntisymmetric name value listed are.apart;
  }
    where
      named_so : (e : E) → (row e).0 ≡ name e
      named_so e = ap (λ (x : ℕ × HeldObject). x.0) (says e)

      found : (object : ℕ) (r : Option HeldRow) → IsRowOf row listed object r → option_map held_of r ≡ finite.get held object
      found object None none = sym (unlisted_unheld object (λ e has same. none e has (named_so e ∙ same)))
      found object (Some r) of =
          let is = ap held_entry_of (sym of.2) ∙ says of.0 in
          sym (ap (finite.get held) (ap (λ (x : ℕ × HeldObject). x.0) is) ∙ listed_held of.0 of.1 ∙ ap (λ (x : ℕ × HeldObject). Some x.1) (sym is))

-- So it is where they are the rows of a slab, each chunk under its row's key.

module _ {Row : Type 0} (said : Row → Chunk) (chunks : Chunks) (named : HaveOwnObjects chunks) (rows : Slab Row) (exact : chunks ≡ by_key said rows) (listed : List (ℕ × Row)) (are : listed ≡ entries rows) where
  pub key_listed : (e : ℕ × Row) → Contains listed e → get rows e.0 ≡ Some e.1
  key_listed e has = (Contains-entries rows e.0 e.1).0 (subst (λ (es : List (ℕ × Row)). Contains es e) are has)

  at_key : (key : ℕ) (row : Row) → get rows key ≡ Some row → finite.get chunks key ≡ Some (said row)
  at_key key row at = ap (λ (m : Chunks). finite.get m key) exact ∙ get_by_key said rows key ∙ ap (option_map said) at

  pub listed_by_key : AreListed (λ (e : ℕ × Row). e.0) (λ e. said e.1) chunks listed
  listed_by_key = record {
    held = λ e has. at_key e.0 e.1 (key_listed e has);
    all = λ key c is.
        let row = found_by_key said rows key c (ap (λ (m : Chunks). finite.get m key) (sym exact) ∙ is) in
        ((key, row.0), subst (λ (es : List (ℕ × Row)). Contains es (key, row.0)) (sym are) ((Contains-entries rows key row.0).1 row.1), row.2);
    apart = subst (AreNamedApart (λ (e : ℕ × Row). (said e.1).object)) (sym are) (rows_apart (λ (row : Row). (said row).object) rows (λ i k x y at_i at_k same. named i k (said x) (said y) (at_key i x at_i) (at_key k y at_k) same));
  }

-- Live blocks, as a list has them: a block is live exactly where it is listed.

module _ {X : Type 0} {R : X → X → Ordering} (total : IsTotalOrder R) (antisymmetric : (a b : X) → R a b ≡ Equal → a ≡ b) (span_of : X → Span) (live : set.FinSet R) where
  module _ {E : Type 0} (block : E → X) (listed : List E) (is_live : (x : X) → Decides (set.contains live x) ((e : E) × Contains listed e × (block e ≡ x))) where
    -- their spans are all that are live
    pub spans_are : set.from_list {R = span_cmp} (map (λ (e : E). span_of (block e)) listed) ≡ by_span span_of live
    spans_are = set.same_set span_total span_exact _ _ (λ q. same_from_decides _ _ (in_names span_total span_exact (λ (e : E). span_of (block e)) listed q) (of_live q))
      where
        of_live : (q : Span) → Decides (set.contains (by_span span_of live) q) ((e : E) × Contains listed e × (◌≡◌ {A = Span} (span_of (block e)) q))
        of_live q =
            let by_items = in_names span_total span_exact span_of (set.items live) q in (
              λ has.
                  let found = by_items.0 has in
                  let row = (is_live found.0).0 ((item_there total antisymmetric live found.0).1 found.1) in
                  (row.0, row.1, ap span_of row.2 ∙ found.2),
              λ there. by_items.1 (block there.0, (item_there total antisymmetric live (block there.0)).0 ((is_live (block there.0)).1 (there.0, there.1, refl)), there.2),
            )

  -- So it is where the list is of the blocks themselves, each once, and no two live ones have one span.

  module _ (one_span : (x y : X) → set.contains live x ≡ true → set.contains live y ≡ true → span_of x ≡ span_of y → x ≡ y) (own : List X) (exact : set.from_list own ≡ live) (once : IsDistinct (eq_by_cmp R) own) where
    own_live : (x : X) → Decides (set.contains live x) (Contains own x)
    own_live x =
        let is = in_set R total antisymmetric own x in
        let same = ap (λ (s : set.FinSet R). set.contains s x) exact in
        (λ has. is.0 (same ∙ has), λ there. sym same ∙ is.1 there)

    apart_in : (xs : List X) → IsDistinct (eq_by_cmp R) xs → ((x : X) → Contains xs x → set.contains live x ≡ true) → AreNamedApart {E = X} {K = Span} span_of xs
    apart_in [] distinct all = tt
    apart_in (x ∷ xs) distinct all = (
      λ y has same.
          let is = one_span y x (all y (contains_later x y xs has)) (all x (contains_head x xs)) same in
          let other = head_is_other (eq_by_cmp R) x x xs distinct (subst (Contains xs) is has) in
          let yes = (key_test R total antisymmetric x x).1 refl in
          absurd (cc),
      apart_in xs (IsDistinct-tail (eq_by_cmp R) x xs distinct) (λ y has. all y (contains_later x y xs has)),
    )

    pub own_spans_are : set.from_list {R = span_cmp} (map span_of own) ≡ by_span span_of live
    own_spans_are = spans_are (λ (x : X). x) own (λ x. (
      λ has. (x, (own_live x).0 has, refl),
      λ there. (own_live x).1 (subst (Contains own) there.2 there.1),
    ))

    pub own_spans_once : AreOnce (map span_of own)
    own_spans_once = once_named span_of own (apart_in own once (λ x has. (own_live x).1 has))
