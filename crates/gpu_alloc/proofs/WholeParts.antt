-- What parts hold in all, as they are walked one after the other: what was met, and what those that are left hold.
use Rattle.std.proofs.Common.{◌≡◌, ◌⊎◌, inl, inr, ℕ, zero, suc, ◌+◌, ◌<◌, ◌≤◌, Bool, true, false, ◌||◌, List, [], ◌∷◌, ◌++◌, drop, get_or, map, length, IfSome, nat_eq, Option, Some, None, IsTrue, refl, sym, ◌∙◌, ap, subst, arith}
use Rattle.std.proofs.lemmas.List.{at_drop_all, at_drop_more, length-append, map-append}
use Rattle.std.proofs.lemmas.Option.{slice_get_read}
use Rattle.std.specs.Cmp.{nat_cmp_total}
use Rattle.std.specs.FinMap as finite
use Rattle.std.specs.FinMap.{nat_cmp-IsAntisymmetric}
use Rattle.std.specs.FinSet as set
use Rattle.std.specs.List.{Contains, IsDistinct}
use Rattle.std.specs.Map.{keys_of}
use Rattle.std.specs.Ordering.{nat_cmp, eq_by_cmp}
use Rattle.std.proofs.lemmas.Cmp.{eq_by_cmp_equiv}
use Rattle.std.proofs.lemmas.Map.Views.{list_any-from_Contains}
use Rattle.gpu_alloc_base.proofs.Lists.{contains_head, contains_later}
use Rattle.gpu_alloc_base.proofs.ListSets.{key_test}
use Rattle.gpu_alloc_base.proofs.ListViews.{AreNamedApart, named_len}
use Rattle.gpu_alloc_block.specs.Parts.{ArePartsApart, Part, held_in_parts, join, live_in_parts}
use Rattle.gpu_alloc_block.specs.State.{HeldObject, Span, span_cmp}
use Rattle.gpu_alloc_block.proofs.LiveSpans.{not_live, span_exact, span_total}
use Rattle.gpu_alloc_block.proofs.Parts.Entries.{first, second, later_above, t_true, there_entry}
use Rattle.gpu_alloc_block.proofs.Parts.Unions.{or_else, get_join, held_at, live_at}
use Rattle.gpu_alloc_base.specs.declared.buddy_block.Leaf.{Leaf as LiveSpan}
use Rattle.gpu_alloc_base.specs.declared.heap.Heap.{Heap}
use Rattle.gpu_alloc.specs.Inside.{properties_in}
use Rattle.gpu_alloc.specs.Listing.{AreOnce}
use Rattle.gpu_alloc.specs.Own.{OwnTable}
use Rattle.gpu_alloc.specs.Spans.{held_objects_in, span_in}
use Rattle.gpu_alloc.specs.Stores.{AreStoresFor, chosen_part, list_part, parts_in}
use Rattle.gpu_alloc.specs.Whole.{AreOneWhole, IsKept, IsPartFor, parts_of, whole}
use Rattle.gpu_alloc.specs.declared.limits.Limits.{Limits}
use Rattle.gpu_alloc.specs.declared.spans.HeldRow.{HeldRow}
use Rattle.gpu_alloc.proofs.Tables.Listed.{appended_cases, distinct_append, distinct_named, once_append, spans_append}
use Rattle.gpu_alloc.proofs.Tables.Unions.{get_over, key_there, objects_append}
use Rattle.gpu_alloc.proofs.Tables.Unions as tables
use Rattle.gpu_alloc.specs.declared.allocator.stores.TypeStores.{TypeStores}

abbrev pub Held : Type 0
Held = finite.FinMap nat_cmp HeldObject

abbrev pub Live : Type 0
Live = set.FinSet span_cmp

get_more : (p : Part) (ps : List Part) (q : ℕ) → finite.get (held_in_parts (p ∷ ps)) q ≡ or_else (finite.get p.held q) (finite.get (held_in_parts ps) q)
get_more p ps q = get_join nat_cmp nat_cmp_total p.held (held_in_parts ps) q

live_more : (p : Part) (ps : List Part) (q : Span) → set.contains (live_in_parts (p ∷ ps)) q ≡ (set.contains p.live q || set.contains (live_in_parts ps) q)
live_more p ps q = set.contains-union span_total p.live (live_in_parts ps) q

-- Look for a name.

first_holds : (p : Part) (ps : List Part) (q : ℕ) (h : HeldObject) → finite.get p.held q ≡ Some h → finite.get (held_in_parts (p ∷ ps)) q ≡ Some h
first_holds p ps q h is = get_more p ps q ∙ ap (λ o. or_else o (finite.get (held_in_parts ps) q)) is

rest_holds : (p : Part) (ps : List Part) (q : ℕ) → finite.get p.held q ≡ None → finite.get (held_in_parts (p ∷ ps)) q ≡ finite.get (held_in_parts ps) q
rest_holds p ps q none = get_more p ps q ∙ ap (λ o. or_else o (finite.get (held_in_parts ps) q)) none

-- all that is held under the name is what the parts that are left hold under it
module _ (all : Held) (q : ℕ) where
  abbrev pub IsLeft : List Part → Type 0
  IsLeft ps = finite.get all q ≡ finite.get (held_in_parts ps) q

  -- what the first of them holds is it
  pub left_first : (p : Part) (ps : List Part) (h : HeldObject) → IsLeft (p ∷ ps) → Some h ≡ finite.get p.held q → Some h ≡ finite.get all q
  left_first p ps h left is = sym (left ∙ first_holds p ps q h (sym is))

  -- where the first holds none, the next ones are left
  pub left_rest : (p : Part) (ps : List Part) → IsLeft (p ∷ ps) → None ≡ finite.get p.held q → IsLeft ps
  left_rest p ps left none = left ∙ rest_holds p ps q (sym none)

  -- and where no part is left, none holds it
  pub left_none : IsLeft [] → None ≡ finite.get all q
  left_none left = sym (left ∙ finite.get-empty nat_cmp q)

-- Each memory type's stores.

-- all that is left from a memory type on
abbrev pub left_from : {M X : Type 0} → List (TypeStores M X) → ℕ → List Part
left_from ss i = parts_in (drop i ss)

-- a memory type's are the next ones of them
pub record AreNext {A M X : Type 0} (l : Limits A) (heaps : List Heap) (ss : List (TypeStores M X)) (i : ℕ) (e : TypeStores M X) : Type 0 where
  pub for_type : AreStoresFor l.config (properties_in l heaps) l.sharing i e
  pub left : left_from ss i ≡ chosen_part e.chosen ∷ list_part e.free_list ∷ left_from ss (i + 1)

module _ {A M X : Type 0} (l : Limits A) (heaps : List Heap) (ss : List (TypeStores M X)) (own : OwnTable) (remaining : ℕ) (kept : IsKept l.sharing l.config (properties_in l heaps) heaps ss own remaining)
    (count : ℕ) (counted : count ≡ length (properties_in l heaps).memory_types) (i : ℕ) where
  module _ (e : TypeStores M X) (inside : i < count) (at : e ≡ get_or ss i e) where
    pub are_next : AreNext l heaps ss i e
    are_next = record {
      for_type = subst (λ (o : Option (TypeStores M X)). IfSome o (AreStoresFor l.config (properties_in l heaps) l.sharing i)) (slice_get_read ss (length ss) i e refl (omega (arith, inside, counted, kept.shared.count)) at) (kept.shared.each i);
      left = at_drop_more parts_in ss i e (omega (arith, kept.shared.count, counted, inside)) ∙ (λ k. chosen_part (sym at k).chosen ∷ list_part (sym at k).free_list ∷ left_from ss (i + 1));
    }

  pub none_left : count ≤ i → left_from ss i ≡ []
  none_left past = at_drop_all parts_in ss i (omega (arith, kept.shared.count, counted, past))

-- No object is held by two of them, and no span is live in two.

abbrev pub AreSeparate : List Part → Type 0
AreSeparate [] = Unit {0}
AreSeparate (p ∷ ps) =
    ((q : ℕ) (h : HeldObject) → finite.get p.held q ≡ Some h → finite.get (held_in_parts ps) q ≡ None)
    × ((q : Span) → IsTrue (set.contains p.live q) → set.contains (live_in_parts ps) q ≡ false)
    × AreSeparate ps

later_apart : (IsPartFor : ℕ → HeldObject → Type 0) (p : Part) (ps : List Part) → ArePartsApart IsPartFor (p ∷ ps) → ArePartsApart (λ i. IsPartFor (suc i)) ps
later_apart IsPartFor p ps a = record {
  placed = λ i r q h at is. a.placed (suc i) r q h at is;
  once = λ i j r s q h k at_i at_j has_r has_s. (let same : suc i ≡ suc j = a.once (suc i) (suc j) r s q h k at_i at_j has_r has_s in omega (arith, same));
  inside = λ i r span at live. a.inside (suc i) r span at live;
}

pub separate : (IsPartFor : ℕ → HeldObject → Type 0) (ps : List Part) → ArePartsApart IsPartFor ps → AreSeparate ps
separate IsPartFor [] a = tt
separate IsPartFor (p ∷ ps) a = (
  λ q h has. none q h has (finite.get (held_in_parts ps) q) refl,
  λ q live. not_live (live_in_parts ps) q (λ there.
      let found = live_at ps q there in
      let here = a.inside zero p q refl live in
      let later = a.inside (suc found.0) found.1 q found.2 found.3 in
      let same : zero ≡ suc found.0 = a.once zero (suc found.0) p found.1 q.object here.0 later.0 refl found.2 here.1 later.1 in
      omega (arith, same)),
  separate (λ i. IsPartFor (suc i)) ps (later_apart IsPartFor p ps a),
)
  where
    none : (q : ℕ) (h : HeldObject) → finite.get p.held q ≡ Some h → (o : Option HeldObject) → finite.get (held_in_parts ps) q ≡ o → finite.get (held_in_parts ps) q ≡ None
    none q h has None is = is
    none q h has (Some k) is =
        let found = held_at ps q k is in
        let same : zero ≡ suc found.0 = a.once zero (suc found.0) p found.1 q h k refl found.2 has found.3 in
        absurd (omega (arith, same))

-- How many they hold.

same_key : (a b : ℕ) → a ≡ b → eq_by_cmp nat_cmp a b ≡ true
same_key a b = (key_test nat_cmp nat_cmp_total nat_cmp-IsAntisymmetric a b).1

sorted_apart : (es : List (ℕ × HeldObject)) → finite.is_sorted nat_cmp es ≡ true → AreNamedApart (λ (e : ℕ × HeldObject). e.0) es
sorted_apart [] sorted = tt
sorted_apart (e ∷ es) sorted = (
  λ a has same. (let other = later_above es e.0 a.0 a.1 (first _ _ sorted) has in let yes = same_key a.0 e.0 same in absurd (cc)),
  sorted_apart es (second _ _ sorted),
)

apart_after : (es fs : List (ℕ × HeldObject)) → AreNamedApart (λ (e : ℕ × HeldObject). e.0) es → AreNamedApart (λ (e : ℕ × HeldObject). e.0) fs
    → ((a b : ℕ × HeldObject) → Contains es a → Contains fs b → b.0 ≡ a.0 → ⊥) → AreNamedApart (λ (e : ℕ × HeldObject). e.0) (es ++ fs)
apart_after [] fs one two other = two
apart_after (e ∷ es) fs one two other = (
  λ a has same. elim (appended_cases es fs a has) [
    | inl here ↦ one.0 a here same
    | inr there ↦ other e a (contains_head e es) there same
  ],
  apart_after es fs one.1 two (λ a b has. other a b (contains_later e a es has)),
)

pairs : (es : List (ℕ × HeldObject)) → map (λ (e : ℕ × HeldObject). (e.0, e.1)) es ≡ es
pairs [] = refl
pairs (e ∷ es) = ap (λ fs. e ∷ fs) (pairs es)

join_len : (m n : Held) → ((q : ℕ) (h : HeldObject) → finite.get m q ≡ Some h → finite.get n q ≡ None) → finite.len (join m n) ≡ finite.len m + finite.len n
join_len m n other =
    let es = finite.entries m in
    let fs = finite.entries n in
    let apart = apart_after es fs (sorted_apart es (t_true _ (finite.entries_sorted m))) (sorted_apart fs (t_true _ (finite.entries_sorted n))) (λ a b has_a has_b same.
    let none = other a.0 a.1 (there_entry m a.0 a.1 has_a) in
    let some = ap (finite.get n) (sym same) ∙ there_entry n b.0 b.1 has_b in
    let bad : None ≡ Some b.1 = sym none ∙ some in
    absurd (cc)) in
    let both = ap (λ (xs : List (ℕ × HeldObject)). finite.len (finite.from_entries {R = nat_cmp} xs)) (sym (pairs (es ++ fs)))
    ∙ named_len nat_cmp_total nat_cmp-IsAntisymmetric (λ (e : ℕ × HeldObject). e.0) (λ e. e.1) (es ++ fs) apart in
    omega (arith, both, length-append es fs, finite.len-entries m, finite.len-entries n)

-- that many were counted, and with what the parts that are left hold it is all
pub record AreCounted (all count : ℕ) (ps : List Part) : Type 0 where
  pub exact : count + finite.len (held_in_parts ps) ≡ all
  pub separate : AreSeparate ps

-- the objects of one block are the first
pub own_counted : {M X : Type 0} (own : OwnTable) (ss : List (TypeStores M X)) → AreOneWhole own ss
    → AreCounted (finite.len (whole own ss).held) (finite.len own.held) (left_from ss 0)
own_counted own ss apart =
    let parts = separate IsPartFor (parts_of own ss) apart in
    record { exact = sym (join_len own.held (held_in_parts (left_from ss 0)) parts.0); separate = parts.2 }

pub counted_next : (all count more : ℕ) (p : Part) (ps : List Part) → AreCounted all count (p ∷ ps) → more ≡ finite.len p.held → AreCounted all (count + more) ps
counted_next all count more p ps counted is = record {
  exact = omega (arith, counted.exact, is, join_len p.held (held_in_parts ps) counted.separate.0);
  separate = counted.separate.2;
}

pub counted_all : (all count : ℕ) → AreCounted all count [] → count ≡ all
counted_all all count counted = omega (arith, counted.exact, finite.len-empty nat_cmp HeldObject)

-- Which.

-- all is what these rows say with what the parts that are left hold
pub record AreMet (all : Held) (rows : List (ℕ × HeldRow)) (ps : List Part) : Type 0 where
  pub exact : (q : ℕ) → finite.get all q ≡ or_else (finite.get (held_objects_in rows) q) (finite.get (held_in_parts ps) q)
  pub once : IsDistinct nat_eq (keys_of rows)
  pub apart : (q : ℕ) (h : HeldObject) → finite.get (held_objects_in rows) q ≡ Some h → finite.get (held_in_parts ps) q ≡ None
  pub separate : AreSeparate ps

none_met : (q : ℕ) → finite.get (held_objects_in []) q ≡ None
none_met q = finite.get-empty nat_cmp q

pub met_none : (ps : List Part) → AreSeparate ps → AreMet (held_in_parts ps) [] ps
met_none ps separate = record {
  exact = λ q. sym (ap (λ o. or_else o (finite.get (held_in_parts ps) q)) (none_met q));
  once = distinct_named (λ (q : ℕ). q) [] tt;
  apart = λ q h has. (let bad : None ≡ Some h = sym (none_met q) ∙ has in absurd (cc));
  separate = separate;
}

or_both : (a b c : Option HeldObject) → or_else a (or_else b c) ≡ or_else (or_else a b) c
or_both None b c = refl
or_both (Some x) b c = refl

same_or : (a b : Option HeldObject) → tables.or_else a b ≡ or_else a b
same_or None b = refl
same_or (Some x) b = refl

met_after : (rows more : List (ℕ × HeldRow)) (q : ℕ) → finite.get (held_objects_in (rows ++ more)) q ≡ or_else (finite.get (held_objects_in rows) q) (finite.get (held_objects_in more) q)
met_after rows more q =
    ap (λ (m : Held). finite.get m q) (objects_append rows more) ∙ get_over (held_objects_in more) rows q ∙ same_or (finite.get (held_objects_in rows) q) (finite.get (held_objects_in more) q)

none_after : (a b : Option HeldObject) → or_else a b ≡ None → b ≡ None
none_after None b is = is
none_after (Some x) b is = absurd (cc)

some_of : (a b : Option HeldObject) (h : HeldObject) → or_else a b ≡ Some h → (a ≡ Some h) ⊎ (b ≡ Some h)
some_of None b h is = inr is
some_of (Some x) b h is = inl is

pub met_next : (all : Held) (rows more now : List (ℕ × HeldRow)) (p : Part) (ps : List Part) → AreMet all rows (p ∷ ps) → now ≡ rows ++ more → held_objects_in more ≡ p.held → IsDistinct nat_eq (keys_of more) → AreMet all now ps
met_next all rows more now p ps met now_is more_are once = subst (λ rs. AreMet all rs ps) (sym now_is) (record {
  exact = λ q.
      met.exact q ∙ ap (or_else (finite.get (held_objects_in rows) q)) (get_more p ps q ∙ ap (λ (m : Held). or_else (finite.get m q) (finite.get (held_in_parts ps) q)) (sym more_are))
      ∙ or_both (finite.get (held_objects_in rows) q) (finite.get (held_objects_in more) q) (finite.get (held_in_parts ps) q) ∙ ap (λ o. or_else o (finite.get (held_in_parts ps) q)) (sym (met_after rows more q));
  once = subst (IsDistinct nat_eq) (sym (map-append (λ (e : ℕ × HeldRow). e.0) rows more)) (distinct_append (keys_of rows) (keys_of more) met.once once (λ q has also.
      let here = key_there rows q has in
      let there = key_there more q also in
      let some = first_holds p ps q there.0 (ap (λ (m : Held). finite.get m q) (sym more_are) ∙ there.1) in
      let bad : None ≡ Some there.0 = sym (met.apart q here.0 here.1) ∙ some in
      absurd (cc)));
  apart = λ q h has. elim (some_of (finite.get (held_objects_in rows) q) (finite.get (held_objects_in more) q) h (sym (met_after rows more q) ∙ has)) [
    | inl was ↦ none_after (finite.get p.held q) (finite.get (held_in_parts ps) q) (sym (get_more p ps q) ∙ met.apart q h was)
    | inr is ↦ met.separate.0 q h (ap (λ (m : Held). finite.get m q) (sym more_are) ∙ is)
  ];
  separate = met.separate.2;
})

pub met_all : (all : Held) (rows : List (ℕ × HeldRow)) → AreMet all rows [] → held_objects_in rows ≡ all
met_all all rows met = finite.same_map nat_cmp_total nat_cmp-IsAntisymmetric _ _ (λ q. sym (met.exact q ∙ last (finite.get (held_objects_in rows) q) (finite.get-empty nat_cmp q)))
  where
    last : {e : Option HeldObject} (o : Option HeldObject) → e ≡ None → or_else o e ≡ o
    last None is = is
    last (Some x) is = refl

-- What is live in them.

-- all is these spans with what is live in the parts that are left
pub record AreLiveMet (all : Live) (spans : List Span) (ps : List Part) : Type 0 where
  pub exact : (q : Span) → set.contains all q ≡ (set.contains (set.from_list {R = span_cmp} spans) q || set.contains (live_in_parts ps) q)
  pub once : AreOnce spans
  pub apart : (q : Span) → IsTrue (set.contains (set.from_list {R = span_cmp} spans) q) → set.contains (live_in_parts ps) q ≡ false
  pub separate : AreSeparate ps

pub live_met_none : (ps : List Part) → AreSeparate ps → AreLiveMet (live_in_parts ps) [] ps
live_met_none ps separate = record {
  exact = λ q. sym (ap (λ b. b || set.contains (live_in_parts ps) q) (set.contains-empty span_cmp q));
  once = tt;
  apart = λ q has. (let bad : false ≡ true = sym (set.contains-empty span_cmp q) ∙ has in absurd (cc));
  separate = separate;
}

either : (a b c : Bool) → (a || (b || c)) ≡ ((a || b) || c)
either true b c = refl
either false b c = refl

swapped : (a b : Bool) → (b || a) ≡ (a || b)
swapped true true = refl
swapped true false = refl
swapped false true = refl
swapped false false = refl

live_after : (spans more : List Span) (q : Span) → set.contains (set.from_list {R = span_cmp} (spans ++ more)) q ≡ (set.contains (set.from_list {R = span_cmp} spans) q || set.contains (set.from_list {R = span_cmp} more) q)
live_after spans more q =
    ap (λ (l : Live). set.contains l q) (spans_append spans more) ∙ set.contains-union span_total (set.from_list more) (set.from_list spans) q
    ∙ swapped (set.contains (set.from_list {R = span_cmp} spans) q) (set.contains (set.from_list {R = span_cmp} more) q)

dead_after : (a b : Bool) → (a || b) ≡ false → b ≡ false
dead_after true b is = absurd (cc)
dead_after false b is = is

live_before : (a b : Bool) → a ≡ true → (a || b) ≡ true
live_before true b is = refl
live_before false b is = absurd (cc)

one_of : (a b : Bool) → (a || b) ≡ true → (a ≡ true) ⊎ (b ≡ true)
one_of true b is = inl refl
one_of false b is = inr is

listed_live : (spans : List Span) (q : Span) → Contains spans q → IsTrue (set.contains (set.from_list {R = span_cmp} spans) q)
listed_live spans q has = set.contains-from_list span_total spans q ∙ list_any-from_Contains (eq_by_cmp_equiv span_total) q spans has

pub live_met_next : (all : Live) (spans more now : List Span) (p : Part) (ps : List Part) → AreLiveMet all spans (p ∷ ps) → now ≡ spans ++ more → set.from_list {R = span_cmp} more ≡ p.live → AreOnce more → AreLiveMet all now ps
live_met_next all spans more now p ps met now_is more_are once = subst (λ rs. AreLiveMet all rs ps) (sym now_is) (record {
  exact = λ q.
      met.exact q ∙ ap (λ b. set.contains (set.from_list {R = span_cmp} spans) q || b) (live_more p ps q ∙ ap (λ (l : Live). set.contains l q || set.contains (live_in_parts ps) q) (sym more_are))
      ∙ either (set.contains (set.from_list {R = span_cmp} spans) q) (set.contains (set.from_list {R = span_cmp} more) q) (set.contains (live_in_parts ps) q) ∙ ap (λ b. b || set.contains (live_in_parts ps) q) (sym (live_after spans more q));
  once = once_append spans more met.once once (λ q has also.
      let some = live_more p ps q ∙ live_before (set.contains p.live q) (set.contains (live_in_parts ps) q) (ap (λ (l : Live). set.contains l q) (sym more_are) ∙ listed_live more q also) in
      let bad : false ≡ true = sym (met.apart q (listed_live spans q has)) ∙ some in
      absurd (cc));
  apart = λ q has. elim (one_of (set.contains (set.from_list {R = span_cmp} spans) q) (set.contains (set.from_list {R = span_cmp} more) q) (sym (live_after spans more q) ∙ has)) [
    | inl was ↦ dead_after (set.contains p.live q) (set.contains (live_in_parts ps) q) (sym (live_more p ps q) ∙ met.apart q was)
    | inr is ↦ met.separate.1 q (ap (λ (l : Live). set.contains l q) (sym more_are) ∙ is)
  ];
  separate = met.separate.2;
})

-- to a list of spans those of a part were added
abbrev pub AreAdded : Part → List LiveSpan → List LiveSpan → Type 0
AreAdded p rows now = (more : List LiveSpan) × (now ≡ rows ++ more) × ((set.from_list {R = span_cmp} (map span_in more) ≡ p.live) × AreOnce (map span_in more))

pub live_met_added : (all : Live) (rows now : List LiveSpan) (p : Part) (ps : List Part) → AreLiveMet all (map span_in rows) (p ∷ ps) → AreAdded p rows now → AreLiveMet all (map span_in now) ps
live_met_added all rows now p ps met added =
    live_met_next all (map span_in rows) (map span_in added.0) (map span_in now) p ps met (ap (map span_in) added.1 ∙ map-append span_in rows added.0) added.2.0 added.2.1

pub live_met_all : (all : Live) (spans : List Span) → AreLiveMet all spans [] → set.from_list {R = span_cmp} spans ≡ all
live_met_all all spans met = set.same_set span_total span_exact _ _ (λ q. sym (met.exact q ∙ last (set.contains (set.from_list {R = span_cmp} spans) q) (set.contains-empty span_cmp q)))
  where
    last : {e : Bool} (b : Bool) → e ≡ false → (b || e) ≡ b
    last true is = refl
    last false is = is
