-- A list of entries, read as a finite map or set by what each entry is called, as one is added or taken off.
use Rattle.std.proofs.Common.{◌≡◌, ◌≢◌, ◌⊎◌, inl, inr, Bool, true, false, cond, not, ◌||◌, ◌&&◌, List, [], ◌∷◌, length, map, Some, None, refl, sym, ◌∙◌, ap, subst, arith}
use Rattle.std.proofs.lemmas.Bool.Decides.{same_from_decides}
use Rattle.std.specs.Bool.{Decides}
use Rattle.std.specs.List.{Contains}
use Rattle.std.specs.declared.cmp.Ordering.{Ordering}
use Rattle.std.specs.Ordering.{eq_by_cmp}
use Rattle.std.specs.Cmp.{IsTotalOrder}
use Rattle.std.proofs.lemmas.Cmp.{eq_by_cmp_equiv}
use Rattle.std.proofs.lemmas.Map.Views.{Contains-from_any, list_any-from_Contains}
use Rattle.std.specs.FinMap as finite
use Rattle.std.specs.FinMap.{IsAntisymmetric}
use Rattle.std.specs.FinSet as set
use Rattle.gpu_alloc_base.proofs.Lists.{contains_head, contains_later, contains_cases, contains_none, seek}
use Rattle.gpu_alloc_base.proofs.ListSets.{key_test}

module _ {E : Type 0} where
  -- ys has one entry more than xs
  pub record IsMore (xs ys : List E) (x : E) : Type 0 where
    pub has : Contains ys x
    pub kept : (a : E) → Contains xs a → Contains ys a
    pub cases : (a : E) → Contains ys a → (a ≡ x) ⊎ Contains xs a

  -- ys has one entry fewer than xs
  pub record IsLess (xs ys : List E) (x : E) : Type 0 where
    pub had : Contains xs x
    pub kept : (a : E) → Contains ys a → (a ≢ x) × Contains xs a
    pub cases : (a : E) → Contains xs a → (a ≡ x) ⊎ Contains ys a

  -- no two entries are called the same
  abbrev pub IsOneToOne : {K : Type 0} → (E → K) → List E → Type 0
  IsOneToOne f es = (a b : E) → Contains es a → Contains es b → f a ≡ f b → a ≡ b

  -- each entry is called otherwise than those after it
  abbrev pub AreNamedApart : {K : Type 0} → (E → K) → List E → Type 0
  AreNamedApart f [] = Unit {0}
  AreNamedApart f (e ∷ es) = ((a : E) → Contains es a → f a ≢ f e) × AreNamedApart f es

  pub contains_name : {K : Type 0} (f : E → K) (es : List E) (a : E) → Contains es a → Contains (map f es) (f a)
  contains_name f [] a has = absurd (contains_none a has)
  contains_name f (e ∷ es) a has = elim (contains_cases e a es has) [
    | inl is ↦ subst (λ z. Contains (f e ∷ map f es) (f z)) (sym is) (contains_head (f e) (map f es))
    | inr h ↦ contains_later (f e) (f a) (map f es) (contains_name f es a h)
  ]

  name_contains : {K : Type 0} (f : E → K) (es : List E) (q : K) → Contains (map f es) q → (a : E) × Contains es a × (f a ≡ q)
  name_contains f [] q has = absurd (contains_none q has)
  name_contains f (e ∷ es) q has = elim (contains_cases (f e) q (map f es) has) [
    | inl is ↦ (e, contains_head e es, sym is)
    | inr h ↦ let found = name_contains f es q h in (found.0, contains_later e found.0 es found.1, found.2)
  ]

module _ {K : Type 0} {R : K → K → Ordering} (total : IsTotalOrder R) (exact : IsAntisymmetric R) where
  differs : (q k : K) → q ≢ k → eq_by_cmp R q k ≡ false
  differs q k ne = cases (eq_by_cmp R q k) refl
    where
      cases : (b : Bool) → eq_by_cmp R q k ≡ b → b ≡ false
      cases true e = absurd (ne ((key_test R total exact q k).0 e))
      cases false e = refl

  -- whether two are the same
  pub same_or_other : (q k : K) → (q ≡ k) ⊎ (q ≢ k)
  same_or_other q k = cases (eq_by_cmp R q k) refl
    where
      cases : (b : Bool) → eq_by_cmp R q k ≡ b → (q ≡ k) ⊎ (q ≢ k)
      cases true e = inl ((key_test R total exact q k).0 e)
      cases false e = inr (λ same. let yes = (key_test R total exact q k).1 same in absurd (cc))

  module _ {E X : Type 0} (f : E → K) (g : E → X) where
    -- a finite map from what an entry is called to what it says
    abbrev pub named : List E → finite.FinMap R X
    named es = finite.from_entries (map (λ e. (f e, g e)) es)

    found : (es : List E) (e : E) → IsOneToOne f es → Contains es e → finite.find R (f e) (map (λ a. (f a, g a)) es) ≡ Some (g e)
    found [] e one has = absurd (contains_none e has)
    found (x ∷ xs) e one has = elim (same_or_other (f e) (f x)) [
      | inl same ↦ rw ((key_test R total exact (f e) (f x)).1 same) (ap (λ a. Some (g a)) (one x e (contains_head x xs) has (sym same)))
      | inr other ↦ rw (differs (f e) (f x) other) (elim (contains_cases x e xs has) [
        | inl is ↦ absurd (other (ap f is))
        | inr later ↦ found xs e (λ a b has_a has_b. one a b (contains_later x a xs has_a) (contains_later x b xs has_b)) later
      ])
    ]

    missed : (es : List E) (q : K) → ((a : E) → Contains es a → f a ≢ q) → finite.find R q (map (λ a. (f a, g a)) es) ≡ None
    missed [] q none = refl
    missed (x ∷ xs) q none =
        rw (differs q (f x) (λ same. none x (contains_head x xs) (sym same))) (missed xs q (λ a has. none a (contains_later x a xs has)))

    -- what an entry says, by what it is called
    pub named_there : (es : List E) (e : E) → IsOneToOne f es → Contains es e → finite.get (named es) (f e) ≡ Some (g e)
    named_there es e one has = finite.get-from_entries total (map (λ a. (f a, g a)) es) (f e) ∙ found es e one has

    pub named_absent : (es : List E) (q : K) → ((a : E) → Contains es a → f a ≢ q) → finite.get (named es) q ≡ None
    named_absent es q none = finite.get-from_entries total (map (λ a. (f a, g a)) es) q ∙ missed es q none

    -- an entry that is called so, or none is
    pub seek_name : (es : List E) (q : K) → ((a : E) × Contains es a × (f a ≡ q)) ⊎ ((a : E) → Contains es a → f a ≢ q)
    seek_name es q = elim (seek (λ e. eq_by_cmp R q (f e)) es) [
      | inl h ↦ inl (h.0, h.1, sym ((key_test R total exact q (f h.0)).0 h.2))
      | inr none ↦ inr (λ a has same. let no = none a has in let yes = (key_test R total exact q (f a)).1 (sym same) in absurd (cc))
    ]

    one_of_fewer : (xs ys : List E) → ((a : E) → Contains xs a → Contains ys a) → IsOneToOne f ys → IsOneToOne f xs
    one_of_fewer xs ys kept one a b has_a has_b = one a b (kept a has_a) (kept b has_b)

    pub named_more : (xs ys : List E) (x : E) → IsOneToOne f ys → IsMore xs ys x → named ys ≡ finite.insert (named xs) (f x) (g x)
    named_more xs ys x one m = finite.same_map total exact _ _ (λ q. elim (seek_name ys q) [
      | inl h ↦ subst (λ k. finite.get (named ys) k ≡ finite.get (finite.insert (named xs) (f x) (g x)) k) h.2 (there h.0 h.1)
      | inr none ↦ named_absent ys q none ∙ sym (finite.get-insert total (named xs) (f x) (g x) q
          ∙ ap (λ b. cond b (Some (g x)) (finite.get (named xs) q)) (differs q (f x) (λ same. none x m.has (sym same)))
          ∙ named_absent xs q (λ a has. none a (m.kept a has)))
    ])
      where
        there : (a : E) → Contains ys a → finite.get (named ys) (f a) ≡ finite.get (finite.insert (named xs) (f x) (g x)) (f a)
        there a has = named_there ys a one has ∙ sym (finite.get-insert total (named xs) (f x) (g x) (f a) ∙ elim (same_or_other (f a) (f x)) [
          | inl same ↦ ap (λ b. cond b (Some (g x)) (finite.get (named xs) (f a))) ((key_test R total exact (f a) (f x)).1 same) ∙ ap (λ e. Some (g e)) (one x a m.has has (sym same))
          | inr other ↦ ap (λ b. cond b (Some (g x)) (finite.get (named xs) (f a))) (differs (f a) (f x) other) ∙ elim (m.cases a has) [
            | inl is ↦ absurd (other (ap f is))
            | inr was ↦ named_there xs a (one_of_fewer xs ys m.kept one) was
          ]
        ])

    pub named_less : (xs ys : List E) (x : E) → IsOneToOne f xs → IsLess xs ys x → named ys ≡ finite.remove (named xs) (f x)
    named_less xs ys x one l = finite.same_map total exact _ _ (λ q. elim (seek_name ys q) [
      | inl h ↦ subst (λ k. finite.get (named ys) k ≡ finite.get (finite.remove (named xs) (f x)) k) h.2 (there h.0 h.1)
      | inr none ↦ named_absent ys q none ∙ sym (finite.get-remove total (named xs) (f x) q ∙ elim (same_or_other q (f x)) [
        | inl same ↦ ap (λ b. cond b None (finite.get (named xs) q)) ((key_test R total exact q (f x)).1 same)
        | inr other ↦ ap (λ b. cond b None (finite.get (named xs) q)) (differs q (f x) other) ∙ named_absent xs q (λ a has. elim (l.cases a has) [
          | inl is ↦ λ same. other (sym same ∙ ap f is)
          | inr still ↦ none a still
        ])
      ])
    ])
      where
        there : (a : E) → Contains ys a → finite.get (named ys) (f a) ≡ finite.get (finite.remove (named xs) (f x)) (f a)
        there a has =
            let was = l.kept a has in
            named_there ys a (one_of_fewer ys xs (λ b h. (l.kept b h).1) one) has
            ∙ sym (finite.get-remove total (named xs) (f x) (f a)
            ∙ ap (λ b. cond b None (finite.get (named xs) (f a))) (differs (f a) (f x) (λ same. was.0 (one a x was.1 l.had same)))
            ∙ named_there xs a one was.1)

    -- there are as many names as entries
    pub named_len : (es : List E) → AreNamedApart f es → finite.len (named es) ≡ length es
    named_len [] apart = finite.len-empty R X
    named_len (e ∷ es) apart =
        let is_new : finite.get (named es) (f e) ≡ None = named_absent es (f e) apart.0 in
        let more = rw is_new at (finite.len-insert {K = K} {X = X} {R = R} total (named es) (f e) (g e)) in
        omega (arith, more, named_len es apart.1)

  module _ {E : Type 0} (f : E → K) where
    -- something is among the names where an entry is called so
    pub in_names : (es : List E) (q : K) → Decides (set.contains (set.from_list {R = R} (map f es)) q) ((a : E) × Contains es a × (f a ≡ q))
    in_names es q =
        let e = set.contains-from_list total (map f es) q in (
          λ t. name_contains f es q (Contains-from_any (λ x y h. (key_test R total exact x y).0 h) q (map f es) (sym e ∙ t)),
          λ h. e ∙ list_any-from_Contains (eq_by_cmp_equiv total) q (map f es) (subst (Contains (map f es)) h.2 (contains_name f es h.0 h.1)),
        )

    pub names_more : (xs ys : List E) (x : E) → IsMore xs ys x → set.from_list {R = R} (map f ys) ≡ set.insert (set.from_list (map f xs)) (f x)
    names_more xs ys x m = set.same_set total exact _ _ (λ q. same_from_decides _ _ (in_names ys q) (after q))
      where
        after : (q : K) → Decides (set.contains (set.insert (set.from_list {R = R} (map f xs)) (f x)) q) ((a : E) × Contains ys a × (f a ≡ q))
        after q =
            let e = set.contains-insert total (set.from_list {R = R} (map f xs)) (f x) q in (
              λ t. split (eq_by_cmp R q (f x)) refl (sym e ∙ t),
              λ h. e ∙ elim (m.cases h.0 h.1) [
                | inl is ↦ front _ _ ((key_test R total exact q (f x)).1 (sym h.2 ∙ ap f is))
                | inr was ↦ later _ _ ((in_names xs q).1 (h.0, was, h.2))
              ],
            )
          where
            front : (a b : Bool) → a ≡ true → (a || b) ≡ true
            front true b h = refl
            front false b h = absurd (cc)

            later : (a b : Bool) → b ≡ true → (a || b) ≡ true
            later true b h = refl
            later false b h = h

            split : (b : Bool) → eq_by_cmp R q (f x) ≡ b → (b || set.contains (set.from_list {R = R} (map f xs)) q) ≡ true → (a : E) × Contains ys a × (f a ≡ q)
            split true is h = (x, m.has, sym ((key_test R total exact q (f x)).0 is))
            split false is h = let was = (in_names xs q).0 h in (was.0, m.kept was.0 was.1, was.2)

    pub names_less : (xs ys : List E) (x : E) → IsOneToOne f xs → IsLess xs ys x → set.from_list {R = R} (map f ys) ≡ set.remove (set.from_list (map f xs)) (f x)
    names_less xs ys x one l = set.same_set total exact _ _ (λ q. same_from_decides _ _ (in_names ys q) (after q))
      where
        after : (q : K) → Decides (set.contains (set.remove (set.from_list {R = R} (map f xs)) (f x)) q) ((a : E) × Contains ys a × (f a ≡ q))
        after q =
            let e = set.contains-remove total (set.from_list {R = R} (map f xs)) (f x) q in (
              λ t. split (eq_by_cmp R q (f x)) refl (sym e ∙ t),
              λ h. let was = l.kept h.0 h.1 in
                  e ∙ both _ _ (differs q (f x) (λ same. was.0 (one h.0 x was.1 l.had (h.2 ∙ same)))) ((in_names xs q).1 (h.0, was.1, h.2)),
            )
          where
            both : (a b : Bool) → a ≡ false → b ≡ true → (not a && b) ≡ true
            both true b h _ = absurd (cc)
            both false b h is = is

            split : (b : Bool) → eq_by_cmp R q (f x) ≡ b → (not b && set.contains (set.from_list {R = R} (map f xs)) q) ≡ true → (a : E) × Contains ys a × (f a ≡ q)
            split true is h = absurd (cc)
            split false is h = let was = (in_names xs q).0 h in elim (l.cases was.0 was.1) [
              | inl same ↦ absurd (let yes = (key_test R total exact q (f x)).1 (sym was.2 ∙ ap f same) in cc)
              | inr still ↦ (was.0, still, was.2)
            ]
