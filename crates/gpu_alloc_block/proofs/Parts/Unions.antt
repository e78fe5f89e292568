-- Laws of what several parts hold and have live, as one.
use Rattle.std.proofs.Common.{◌≡◌, ◌≢◌, ◌⊎◌, inl, inr, ℕ, zero, suc, Bool, true, false, cond, not, ◌&&◌, ◌||◌, List, [], ◌∷◌, ◌++◌, Option, Some, None, IsTrue, refl, sym, ◌∙◌, ap, arith}
use Rattle.std.proofs.Math.ListN.{set}
use Rattle.std.specs.declared.cmp.Ordering.{Ordering}
use Rattle.std.specs.Ordering.{nat_cmp, eq_by_cmp}
use Rattle.std.specs.Cmp.{IsTotalOrder, nat_cmp_total}
use Rattle.std.specs.FinMap as map
use Rattle.std.specs.FinMap.{nat_cmp-IsAntisymmetric}
use Rattle.std.specs.FinSet as set_of
use Rattle.gpu_alloc_base.proofs.ListSets.{key_test}
use Rattle.gpu_alloc_block.specs.State.{HeldObject, Span, span_cmp}
use Rattle.gpu_alloc_block.proofs.LiveSpans.{span_total, span_exact, span_test}
use Rattle.gpu_alloc_block.specs.Parts.{Part, join, held_in_parts, live_in_parts, IsAt, Holds, HasLive}

-- Places.

pub at_once : {A : Type 0} (xs : List A) (i : ℕ) (x y : A) → IsAt xs i x → IsAt xs i y → x ≡ y
at_once [] i x y a b = absurd a
at_once (z ∷ xs) zero x y a b = sym a ∙ b
at_once (z ∷ xs) (suc i) x y a b = at_once xs i x y a b

-- after a change at one place
pub at_after : {A : Type 0} (xs : List A) (i : ℕ) (new : A) (j : ℕ) (y : A) → IsAt (set xs i new) j y → ((j ≡ i) × (new ≡ y)) ⊎ ((j ≢ i) × IsAt xs j y)
at_after [] i new j y a = absurd a
at_after (z ∷ xs) zero new zero y a = inl (refl, a)
at_after (z ∷ xs) zero new (suc j) y a = inr ((λ e. omega (arith, e)), a)
at_after (z ∷ xs) (suc i) new zero y a = inr ((λ e. omega (arith, e)), a)
at_after (z ∷ xs) (suc i) new (suc j) y a = elim (at_after xs i new j y a) [
  | inl h ↦ inl (ap suc h.0, h.1)
  | inr h ↦ inr ((λ e. h.0 (omega (arith, e))), h.1)
]

-- What a union has.

abbrev pub or_else : {X : Type 0} → Option X → Option X → Option X
or_else None o = o
or_else (Some x) o = Some x

module _ {K X : Type 0} (R : K → K → Ordering) where
  find_both : (q : K) (es fs : List (K × X)) → map.find R q (es ++ fs) ≡ or_else (map.find R q es) (map.find R q fs)
  find_both q [] fs = refl
  find_both q (e ∷ es) fs = elim (eq_by_cmp R q e.0) as (λ b. cond b (Some e.1) (map.find R q (es ++ fs)) ≡ or_else (cond b (Some e.1) (map.find R q es)) (map.find R q fs)) [
    | true ↦ refl
    | false ↦ find_both q es fs
  ]

  pub get_join : IsTotalOrder R → (m n : map.FinMap R X) (q : K) → map.get (join m n) q ≡ or_else (map.get m q) (map.get n q)
  get_join o m n q =
      map.get-from_entries o (map.entries m ++ map.entries n) q ∙ find_both q (map.entries m) (map.entries n)
      ∙ (λ i. or_else (sym (map.get-entries m q) i) (sym (map.get-entries n q) i))

get_more : (p : Part) (ps : List Part) (q : ℕ) → map.get (held_in_parts (p ∷ ps)) q ≡ or_else (map.get p.held q) (map.get (held_in_parts ps) q)
get_more p ps q = get_join nat_cmp nat_cmp_total p.held (held_in_parts ps) q

live_more : (p : Part) (ps : List Part) (q : Span) → set_of.contains (live_in_parts (p ∷ ps)) q ≡ (set_of.contains p.live q || set_of.contains (live_in_parts ps) q)
live_more p ps q = set_of.contains-union span_total p.live (live_in_parts ps) q

abbrev IsHeldAt : List Part → ℕ → HeldObject → Type 0
IsHeldAt ps object h = (i : ℕ) × (p : Part) × IsAt ps i p × Holds p object h

abbrev IsLiveAt : List Part → Span → Type 0
IsLiveAt ps span = (i : ℕ) × (p : Part) × IsAt ps i p × HasLive p span

-- what the union has, a part has
pub held_at : (ps : List Part) (object : ℕ) (h : HeldObject) → map.get (held_in_parts ps) object ≡ Some h → (i : ℕ) × (p : Part) × IsAt ps i p × Holds p object h
held_at [] object h is = absurd (let none = map.get-empty {X = HeldObject} nat_cmp object in let bad : None ≡ Some h = sym none ∙ is in cc)
held_at (p ∷ ps) object h is = cases (map.get p.held object) refl (sym (get_more p ps object) ∙ is) (held_at ps object h)
  where
    cases : (o : Option HeldObject) → map.get p.held object ≡ o → or_else (map.get p.held object) (map.get (held_in_parts ps) object) ≡ Some h → (map.get (held_in_parts ps) object ≡ Some h → IsHeldAt ps object h) → IsHeldAt (p ∷ ps) object h
    cases None e got later = let rest = later (sym (ap (λ o. or_else o (map.get (held_in_parts ps) object)) e) ∙ got) in (suc rest.0, rest.1, rest.2, rest.3)
    cases (Some x) e got later = (zero, p, refl, e ∙ sym (ap (λ o. or_else o (map.get (held_in_parts ps) object)) e) ∙ got)

pub live_at : (ps : List Part) (span : Span) → IsTrue (set_of.contains (live_in_parts ps) span) → (i : ℕ) × (p : Part) × IsAt ps i p × HasLive p span
live_at [] span is = absurd (let none = set_of.contains-empty span_cmp span in let bad : false ≡ true = sym none ∙ is in cc)
live_at (p ∷ ps) span is = cases (set_of.contains p.live span) refl (sym (live_more p ps span) ∙ is) (live_at ps span)
  where
    cases : (b : Bool) → set_of.contains p.live span ≡ b → (set_of.contains p.live span || set_of.contains (live_in_parts ps) span) ≡ true → (IsTrue (set_of.contains (live_in_parts ps) span) → IsLiveAt ps span) → IsLiveAt (p ∷ ps) span
    cases true e got later = (zero, p, refl, e)
    cases false e got later = let rest = later (sym (ap (λ b. b || set_of.contains (live_in_parts ps) span) e) ∙ got) in (suc rest.0, rest.1, rest.2, rest.3)

-- what no part holds, the union does not hold
pub none_of : (ps : List Part) (object : ℕ) → ((i : ℕ) (p : Part) → IsAt ps i p → map.get p.held object ≡ None) → map.get (held_in_parts ps) object ≡ None
none_of ps object none = cases (map.get (held_in_parts ps) object) refl
  where
    cases : (o : Option HeldObject) → map.get (held_in_parts ps) object ≡ o → map.get (held_in_parts ps) object ≡ None
    cases None e = e
    cases (Some h) e = let at = held_at ps object h e in absurd (let bad : None ≡ Some h = sym (none at.0 at.1 at.2) ∙ at.3 in cc)

-- and what the union does not hold, no part holds
pub none_at : (ps : List Part) (object : ℕ) → map.get (held_in_parts ps) object ≡ None → (i : ℕ) (p : Part) → IsAt ps i p → map.get p.held object ≡ None
none_at [] object none i p at = absurd at
none_at (r ∷ ps) object none i p at = cases (map.get r.held object) refl (sym (get_more r ps object) ∙ none) i at (none_at ps object)
  where
    cases : (o : Option HeldObject) → map.get r.held object ≡ o → or_else (map.get r.held object) (map.get (held_in_parts ps) object) ≡ None → (i : ℕ) → IsAt (r ∷ ps) i p
        → (map.get (held_in_parts ps) object ≡ None → (i : ℕ) (p : Part) → IsAt ps i p → map.get p.held object ≡ None) → map.get p.held object ≡ None
    cases None e got zero here later = ap (λ (s : Part). map.get s.held object) (sym here) ∙ e
    cases None e got (suc j) there later = later (sym (ap (λ o. or_else o (map.get (held_in_parts ps) object)) e) ∙ got) j p there
    cases (Some x) e got j here later = absurd (let bad : Some x ≡ None = sym (ap (λ o. or_else o (map.get (held_in_parts ps) object)) e) ∙ got in cc)

-- what is live in a part is live in the union
pub live_of : (ps : List Part) (i : ℕ) (p : Part) (span : Span) → IsAt ps i p → HasLive p span → IsTrue (set_of.contains (live_in_parts ps) span)
live_of [] i p span at has = absurd at
live_of (r ∷ ps) zero p span at has = live_more r ps span ∙ ap (λ b. b || set_of.contains (live_in_parts ps) span) (ap (λ (s : Part). set_of.contains s.live span) at ∙ has)
live_of (r ∷ ps) (suc i) p span at has = live_more r ps span ∙ ap (λ b. set_of.contains r.live span || b) (live_of ps i p span at has) ∙ later (set_of.contains r.live span)
  where
    later : (b : Bool) → (b || true) ≡ true
    later true = refl
    later false = refl

-- One part is changed at one object, or at one span.

-- no other part holds the object
abbrev pub IsAlone : List Part → ℕ → ℕ → Type 0
IsAlone ps i object = (j : ℕ) (q : Part) → IsAt ps j q → j ≢ i → map.get q.held object ≡ None

-- no other part has the span
abbrev pub IsAloneLive : List Part → ℕ → Span → Type 0
IsAloneLive ps i span = (j : ℕ) (q : Part) → IsAt ps j q → j ≢ i → set_of.contains q.live span ≡ false

pub held_changed : (ps : List Part) (i : ℕ) (p new : Part) (k : ℕ) (o : Option HeldObject) → IsAt ps i p → IsAlone ps i k
    → ((q : ℕ) → map.get new.held q ≡ cond (eq_by_cmp nat_cmp q k) o (map.get p.held q))
    → (q : ℕ) → map.get (held_in_parts (set ps i new)) q ≡ cond (eq_by_cmp nat_cmp q k) o (map.get (held_in_parts ps) q)
held_changed [] i p new k o at alone is q = absurd at
held_changed (r ∷ ps) zero p new k o at alone is q =
    get_more new ps q ∙ ap (λ x. or_else x (map.get (held_in_parts ps) q)) (is q ∙ ap (λ (s : Part). cond (eq_by_cmp nat_cmp q k) o (map.get s.held q)) (sym at))
    ∙ cases (eq_by_cmp nat_cmp q k) refl ∙ ap (cond (eq_by_cmp nat_cmp q k) o) (sym (get_more r ps q))
  where
    none : map.get (held_in_parts ps) k ≡ None
    none = none_of ps k (λ j s there. alone (suc j) s there (λ e. omega (arith, e)))

    both : (x : Option HeldObject) → or_else x None ≡ x
    both None = refl
    both (Some x) = refl

    cases : (b : Bool) → eq_by_cmp nat_cmp q k ≡ b → or_else (cond b o (map.get r.held q)) (map.get (held_in_parts ps) q) ≡ cond b o (or_else (map.get r.held q) (map.get (held_in_parts ps) q))
    cases true e = ap (or_else o) (ap (map.get (held_in_parts ps)) ((key_test nat_cmp nat_cmp_total nat_cmp-IsAntisymmetric q k).0 e) ∙ none) ∙ both o
    cases false e = refl
held_changed (r ∷ ps) (suc i) p new k o at alone is q =
    get_more r (set ps i new) q ∙ ap (or_else (map.get r.held q)) (held_changed ps i p new k o at (λ j s there ne. alone (suc j) s there (λ e. ne (omega (arith, e)))) is q)
    ∙ cases (eq_by_cmp nat_cmp q k) refl ∙ ap (cond (eq_by_cmp nat_cmp q k) o) (sym (get_more r ps q))
  where
    none : map.get r.held k ≡ None
    none = alone zero r refl (λ e. omega (arith, e))

    cases : (b : Bool) → eq_by_cmp nat_cmp q k ≡ b → or_else (map.get r.held q) (cond b o (map.get (held_in_parts ps) q)) ≡ cond b o (or_else (map.get r.held q) (map.get (held_in_parts ps) q))
    cases true e = ap (λ x. or_else x o) (ap (map.get r.held) ((key_test nat_cmp nat_cmp_total nat_cmp-IsAntisymmetric q k).0 e) ∙ none)
    cases false e = refl

pub held_kept : (ps : List Part) (i : ℕ) (p new : Part) → IsAt ps i p → new.held ≡ p.held → held_in_parts (set ps i new) ≡ held_in_parts ps
held_kept [] i p new at is = absurd at
held_kept (r ∷ ps) zero p new at is = ap (λ m. join m (held_in_parts ps)) (is ∙ ap (λ (s : Part). s.held) (sym at))
held_kept (r ∷ ps) (suc i) p new at is = ap (join r.held) (held_kept ps i p new at is)

live_changed : (ps : List Part) (i : ℕ) (p new : Part) (k : Span) (o : Bool) → IsAt ps i p → IsAloneLive ps i k
    → ((q : Span) → set_of.contains new.live q ≡ cond (eq_by_cmp span_cmp q k) o (set_of.contains p.live q))
    → (q : Span) → set_of.contains (live_in_parts (set ps i new)) q ≡ cond (eq_by_cmp span_cmp q k) o (set_of.contains (live_in_parts ps) q)
live_changed [] i p new k o at alone is q = absurd at
live_changed (r ∷ ps) zero p new k o at alone is q =
    live_more new ps q ∙ ap (λ x. x || set_of.contains (live_in_parts ps) q) (is q ∙ ap (λ (s : Part). cond (eq_by_cmp span_cmp q k) o (set_of.contains s.live q)) (sym at))
    ∙ cases (eq_by_cmp span_cmp q k) refl ∙ ap (cond (eq_by_cmp span_cmp q k) o) (sym (live_more r ps q))
  where
    dead : (b : Bool) → set_of.contains (live_in_parts ps) k ≡ b → set_of.contains (live_in_parts ps) k ≡ false
    dead true e = let h = live_at ps k e in absurd (let bad : true ≡ false = sym h.3 ∙ alone (suc h.0) h.1 h.2 (λ x. omega (arith, x)) in cc)
    dead false e = e

    both : (x : Bool) → (x || false) ≡ x
    both true = refl
    both false = refl

    cases : (b : Bool) → eq_by_cmp span_cmp q k ≡ b → (cond b o (set_of.contains r.live q) || set_of.contains (live_in_parts ps) q) ≡ cond b o (set_of.contains r.live q || set_of.contains (live_in_parts ps) q)
    cases true e = ap (λ x. o || x) (ap (set_of.contains (live_in_parts ps)) ((span_test q k).0 e) ∙ dead (set_of.contains (live_in_parts ps) k) refl) ∙ both o
    cases false e = refl
live_changed (r ∷ ps) (suc i) p new k o at alone is q =
    live_more r (set ps i new) q ∙ ap (λ x. set_of.contains r.live q || x) (live_changed ps i p new k o at (λ j s there ne. alone (suc j) s there (λ e. ne (omega (arith, e)))) is q)
    ∙ cases (eq_by_cmp span_cmp q k) refl ∙ ap (cond (eq_by_cmp span_cmp q k) o) (sym (live_more r ps q))
  where
    none : set_of.contains r.live k ≡ false
    none = alone zero r refl (λ e. omega (arith, e))

    cases : (b : Bool) → eq_by_cmp span_cmp q k ≡ b → (set_of.contains r.live q || cond b o (set_of.contains (live_in_parts ps) q)) ≡ cond b o (set_of.contains r.live q || set_of.contains (live_in_parts ps) q)
    cases true e = ap (λ x. x || o) (ap (set_of.contains r.live) ((span_test q k).0 e) ∙ none)
    cases false e = refl

pub live_kept_at : (ps : List Part) (i : ℕ) (p new : Part) → IsAt ps i p → new.live ≡ p.live → live_in_parts (set ps i new) ≡ live_in_parts ps
live_kept_at [] i p new at is = absurd at
live_kept_at (r ∷ ps) zero p new at is = ap (λ m. set_of.union m (live_in_parts ps)) (is ∙ ap (λ (s : Part). s.live) (sym at))
live_kept_at (r ∷ ps) (suc i) p new at is = ap (set_of.union r.live) (live_kept_at ps i p new at is)

as_cond : (b c : Bool) → (b || c) ≡ cond b true c
as_cond true c = refl
as_cond false c = refl

as_cond_not : (b c : Bool) → (not b && c) ≡ cond b false c
as_cond_not true c = refl
as_cond_not false c = refl

module _ (ps : List Part) (i : ℕ) (p new : Part) (at : IsAt ps i p) where
  -- an object comes to a part, and so to the union
  pub held_put : (k : ℕ) (v : HeldObject) → IsAlone ps i k → new.held ≡ map.insert p.held k v → held_in_parts (set ps i new) ≡ map.insert (held_in_parts ps) k v
  held_put k v alone is = map.same_map nat_cmp_total nat_cmp-IsAntisymmetric _ _ (λ q.
      held_changed ps i p new k (Some v) at alone (λ x. ap (λ m. map.get m x) is ∙ map.get-insert nat_cmp_total p.held k v x) q
      ∙ sym (map.get-insert nat_cmp_total (held_in_parts ps) k v q))

  -- and is removed
  pub held_gone : (k : ℕ) → IsAlone ps i k → new.held ≡ map.remove p.held k → held_in_parts (set ps i new) ≡ map.remove (held_in_parts ps) k
  held_gone k alone is = map.same_map nat_cmp_total nat_cmp-IsAntisymmetric _ _ (λ q.
      held_changed ps i p new k None at alone (λ x. ap (λ m. map.get m x) is ∙ map.get-remove nat_cmp_total p.held k x) q
      ∙ sym (map.get-remove nat_cmp_total (held_in_parts ps) k q))

  -- a span comes
  pub live_put : (k : Span) → IsAloneLive ps i k → new.live ≡ set_of.insert p.live k → live_in_parts (set ps i new) ≡ set_of.insert (live_in_parts ps) k
  live_put k alone is = set_of.same_set span_total span_exact _ _ (λ q.
      live_changed ps i p new k true at alone (λ x. ap (λ m. set_of.contains m x) is ∙ set_of.contains-insert span_total p.live k x ∙ as_cond (eq_by_cmp span_cmp x k) (set_of.contains p.live x)) q
      ∙ sym (set_of.contains-insert span_total (live_in_parts ps) k q ∙ as_cond (eq_by_cmp span_cmp q k) (set_of.contains (live_in_parts ps) q)))

  -- and is removed
  pub live_gone : (k : Span) → IsAloneLive ps i k → new.live ≡ set_of.remove p.live k → live_in_parts (set ps i new) ≡ set_of.remove (live_in_parts ps) k
  live_gone k alone is = set_of.same_set span_total span_exact _ _ (λ q.
      live_changed ps i p new k false at alone (λ x. ap (λ m. set_of.contains m x) is ∙ set_of.contains-remove span_total p.live k x ∙ as_cond_not (eq_by_cmp span_cmp x k) (set_of.contains p.live x)) q
      ∙ sym (set_of.contains-remove span_total (live_in_parts ps) k q ∙ as_cond_not (eq_by_cmp span_cmp q k) (set_of.contains (live_in_parts ps) q)))
