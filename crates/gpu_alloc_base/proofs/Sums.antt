-- Sums over the entries of a map, as an entry is added or taken off, and against those of another map.
use Rattle.std.proofs.Common.{◌≡◌, ℕ, zero, suc, ◌+◌, ◌≤◌, Bool, true, false, cond, ◌==◌, List, [], ◌∷◌, length, Some, None, refl, sym, ◌∙◌, ap, arith, Less, Equal, Greater}
use Rattle.std.proofs.lemmas.Bool.Decides.{nat_tests}
use Rattle.std.proofs.lemmas.List.Sums.{sum_by-cons}
use Rattle.std.specs.List.{sum_by}
use Rattle.std.specs.Cmp.{nat_cmp_total}
use Rattle.std.specs.Ordering.{nat_cmp, eq_by_cmp, is_eq}
use Rattle.std.specs.FinMap as finite
use Rattle.std.specs.FinMap.{nat_cmp-IsAntisymmetric}
use Rattle.std.specs.FinMap.Entries.{by_order}
use Rattle.gpu_alloc_base.proofs.Maps.{eq-true, name_test, gone, kept_key, kept_other}

-- Entries, with a new key put in its place.

module _ {X : Type 0} where
  sum_by-put : (f : ℕ × X → ℕ) (k : ℕ) (v : X) (es : List (ℕ × X)) → finite.find nat_cmp k es ≡ None → sum_by f (finite.put nat_cmp k v es) ≡ f (k, v) + sum_by f es
  sum_by-put f k v [] none = sum_by-cons f (k, v) []
  sum_by-put f k v (e ∷ es) none = elim (nat_cmp k e.0) as (λ r. cond (is_eq r) (Some e.1) (finite.find nat_cmp k es) ≡ None
      → sum_by f (by_order r ((k, v) ∷ e ∷ es) ((e.0, v) ∷ es) (e ∷ finite.put nat_cmp k v es)) ≡ f (k, v) + sum_by f (e ∷ es)) [
        | Less ↦ λ _. sum_by-cons f (k, v) (e ∷ es)
        | Equal ↦ λ some. absurd (cc)
        | Greater ↦ λ rest. omega (arith, sum_by-cons f e (finite.put nat_cmp k v es), sum_by-cons f e es, sum_by-put f k v es rest)
      ] none

-- Maps, with a new name inserted or a held one removed.

module _ {X : Type 0} where
  pub not_found : (m : finite.FinMap nat_cmp X) (k : ℕ) → finite.get m k ≡ None → finite.find nat_cmp k (finite.entries m) ≡ None
  not_found m k none = sym (finite.get-entries m k) ∙ none

  pub sum_by-insert : (f : ℕ × X → ℕ) (m : finite.FinMap nat_cmp X) (k : ℕ) (v : X) → finite.get m k ≡ None → sum_by f (finite.entries (finite.insert m k v)) ≡ f (k, v) + sum_by f (finite.entries m)
  sum_by-insert f m k v none = ap (sum_by f) (finite.entries-insert nat_cmp_total m k v) ∙ sum_by-put f k v (finite.entries m) (not_found m k none)

  -- what was removed and is inserted again is as it was
  pub back : (m : finite.FinMap nat_cmp X) (k : ℕ) (v : X) → finite.get m k ≡ Some v → finite.insert (finite.remove m k) k v ≡ m
  back m k v is = finite.same_map nat_cmp_total nat_cmp-IsAntisymmetric _ _ (λ q.
      finite.get-insert nat_cmp_total (finite.remove m k) k v q ∙ ap (cond (eq_by_cmp nat_cmp q k) (Some v)) (finite.get-remove nat_cmp_total m k q) ∙ same q (eq_by_cmp nat_cmp q k) (name_test q k))
    where
      same : (q : ℕ) (b : Bool) → b ≡ (q == k) → cond b (Some v) (cond b None (finite.get m q)) ≡ finite.get m q
      same q true e = let here : q ≡ k = grind (arith, nat_tests) in sym (ap (finite.get m) here ∙ is)
      same q false e = refl

  pub sum_by-remove : (f : ℕ × X → ℕ) (m : finite.FinMap nat_cmp X) (k : ℕ) (v : X) → finite.get m k ≡ Some v → f (k, v) + sum_by f (finite.entries (finite.remove m k)) ≡ sum_by f (finite.entries m)
  sum_by-remove f m k v is = sym (sum_by-insert f (finite.remove m k) k v (gone m k)) ∙ ap (λ (n : finite.FinMap nat_cmp X). sum_by f (finite.entries n)) (back m k v is)

  pub len_more : (m : finite.FinMap nat_cmp X) (k : ℕ) (v : X) → finite.get m k ≡ None → finite.len (finite.insert m k v) ≡ finite.len m + 1
  len_more m k v none = rw none at (finite.len-insert {K = ℕ} {X = X} {R = nat_cmp} nat_cmp_total m k v)

  pub len_less : (m : finite.FinMap nat_cmp X) (k : ℕ) (v : X) → finite.get m k ≡ Some v → finite.len (finite.remove m k) + 1 ≡ finite.len m
  len_less m k v is = sym (len_more (finite.remove m k) k v (gone m k)) ∙ ap (λ (n : finite.FinMap nat_cmp X). finite.len n) (back m k v is)

-- the first entry is found by its key
first_found : {X : Type 0} (e : ℕ × X) (es : List (ℕ × X)) → finite.find nat_cmp e.0 (e ∷ es) ≡ Some e.1
first_found e es = rw (name_test e.0 e.0, eq-true e.0 e.0 refl) refl

no_entry : {X : Type 0} (m : finite.FinMap nat_cmp X) → finite.len m ≡ 0 → finite.entries m ≡ []
no_entry {X} m len = empty (finite.entries m) (sym (finite.len-entries m) ∙ len)
  where
    empty : (es : List (ℕ × X)) → length es ≡ 0 → es ≡ []
    empty [] none = refl
    empty (e ∷ es) none = absurd (omega (arith, none))

first_entry : {X : Type 0} (m : finite.FinMap nat_cmp X) (n : ℕ) → finite.len m ≡ suc n → (e : ℕ × X) × (finite.get m e.0 ≡ Some e.1)
first_entry {X} m n len =
    let e = first (finite.entries m) (sym (finite.len-entries m) ∙ len) in
    (e.0, finite.get-entries m e.0.0 ∙ e.1)
  where
    first : (es : List (ℕ × X)) → length es ≡ suc n → (e : ℕ × X) × (finite.find nat_cmp e.0 es ≡ Some e.1)
    first [] none = absurd (omega (arith, none))
    first (e ∷ es) some = (e, first_found e es)

-- Two sums over one map, in which each entry weighs the same.

module _ {X : Type 0} (f g : ℕ × X → ℕ) where
  abbrev pub WeighsSame : finite.FinMap nat_cmp X → Type 0
  WeighsSame m = (k : ℕ) (c : X) → finite.get m k ≡ Some c → f (k, c) ≡ g (k, c)

  sum_by-same_counted : (n : ℕ) (m : finite.FinMap nat_cmp X) → finite.len m ≡ n → WeighsSame m → sum_by f (finite.entries m) ≡ sum_by g (finite.entries m)
  sum_by-same_counted zero m len same = rw (no_entry m len) refl
  sum_by-same_counted (suc n) m len same =
      let e = first_entry m n len in
      let less = sum_by-same_counted n (finite.remove m e.0.0) (omega (arith, len, len_less m e.0.0 e.0.1 e.1)) (λ k c at. same k c (kept_key m e.0.0 k c at).1) in
      omega (arith, less, same e.0.0 e.0.1 e.1, sum_by-remove f m e.0.0 e.0.1 e.1, sum_by-remove g m e.0.0 e.0.1 e.1)

  pub sum_by-same : (m : finite.FinMap nat_cmp X) → WeighsSame m → sum_by f (finite.entries m) ≡ sum_by g (finite.entries m)
  sum_by-same m same = sum_by-same_counted (finite.len m) m refl same

-- A sum over one map against a sum over another, where each key of the first has a name of its own in the second.

module _ {X Y : Type 0} (name : X → ℕ) (f : ℕ × X → ℕ) (g : ℕ × Y → ℕ) where
  -- each key weighs no more than what is named by it
  abbrev pub WeighsWithin : finite.FinMap nat_cmp X → finite.FinMap nat_cmp Y → Type 0
  WeighsWithin m held = (k : ℕ) (c : X) → finite.get m k ≡ Some c → (h : Y) × (finite.get held (name c) ≡ Some h) × (f (k, c) ≤ g (name c, h))

  -- no two keys have the same name
  abbrev pub AreNamedOnce : finite.FinMap nat_cmp X → Type 0
  AreNamedOnce m = (k l : ℕ) (c d : X) → finite.get m k ≡ Some c → finite.get m l ≡ Some d → name c ≡ name d → k ≡ l

  module _ (m : finite.FinMap nat_cmp X) (held : finite.FinMap nat_cmp Y) (k : ℕ) (c : X) (is : finite.get m k ≡ Some c) where
    left_within : WeighsWithin m held → AreNamedOnce m → WeighsWithin (finite.remove m k) (finite.remove held (name c))
    left_within within once l d at =
        let was = kept_key m k l d at in
        let w = within l d was.1 in
        (w.0, kept_other held (name c) (name d) (λ same. was.0 (once l k d c was.1 is same)) ∙ w.1, w.2)

    left_once : AreNamedOnce m → AreNamedOnce (finite.remove m k)
    left_once once i j x y at also same = once i j x y (kept_key m k i x at).1 (kept_key m k j y also).1 same

  -- by the number of keys
  sum_by-counted : (n : ℕ) (m : finite.FinMap nat_cmp X) (held : finite.FinMap nat_cmp Y) → finite.len m ≡ n → WeighsWithin m held → AreNamedOnce m
      → sum_by f (finite.entries m) ≤ sum_by g (finite.entries held)
  sum_by-counted zero m held len within once = rw (no_entry m len) (omega arith)
  sum_by-counted (suc n) m held len within once =
      let e = first_entry m n len in
      let is = e.1 in
      let w = within e.0.0 e.0.1 is in
      let less = sum_by-counted n (finite.remove m e.0.0) (finite.remove held (name e.0.1)) (omega (arith, len, len_less m e.0.0 e.0.1 is))
      (left_within m held e.0.0 e.0.1 is within once) (left_once m held e.0.0 e.0.1 is once) in
      omega (arith, less, w.2, sum_by-remove f m e.0.0 e.0.1 is, sum_by-remove g held (name e.0.1) w.0 w.1)

  pub sum_by-within : (m : finite.FinMap nat_cmp X) (held : finite.FinMap nat_cmp Y) → WeighsWithin m held → AreNamedOnce m → sum_by f (finite.entries m) ≤ sum_by g (finite.entries held)
  sum_by-within m held within once = sum_by-counted (finite.len m) m held refl within once

sum_by-one : {X : Type 0} (es : List (ℕ × X)) → sum_by (λ _. 1) es ≡ length es
sum_by-one [] = refl
sum_by-one (e ∷ es) = omega (arith, sum_by-cons (λ _. 1) e es, sum_by-one es)

-- so there are no more keys than names
pub len-within : {X Y : Type 0} (name : X → ℕ) (m : finite.FinMap nat_cmp X) (held : finite.FinMap nat_cmp Y)
    → ((k : ℕ) (c : X) → finite.get m k ≡ Some c → (h : Y) × (finite.get held (name c) ≡ Some h)) → AreNamedOnce name (λ _. 1) (λ (_ : ℕ × Y). 1) m
    → finite.len m ≤ finite.len held
len-within {X} {Y} name m held there once =
    omega (
      arith,
      finite.len-entries m,
      finite.len-entries held,
      sum_by-one (finite.entries m),
      sum_by-one (finite.entries held),
      sum_by-within name (λ (_ : ℕ × X). 1) (λ (_ : ℕ × Y). 1) m held (λ k c is. let t = there k c is in (t.0, t.1, omega arith)) once,
    )
