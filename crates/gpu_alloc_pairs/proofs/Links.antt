-- The ring of the ready pairs while a pair joins it or leaves it.
use Rattle.std.proofs.Common.{◌≡◌, ◌≢◌, ℕ, inl, inr, Option, Some, None, IsSome, IfSome, IfNone, refl, sym, ◌∙◌, ap, subst}
use Rattle.std.proofs.lemmas.Bool.{cases_eq}
use Rattle.slab.specs.Slab.{Slab, get, Updates}
use Rattle.gpu_alloc_pairs.specs.Ring.{IsRing}
use Rattle.gpu_alloc_pairs.specs.Links.{IsLinked, IsLinkedWith, IsOff, IsOfState, IsOn, KeepsPairs, SetsNext, SetsPrev}
use Rattle.gpu_alloc_pairs.specs.Links.{free_of, free_side, next_in, next_of, prev_in, prev_of, state_next, state_prev}
use Rattle.gpu_alloc_pairs.specs.declared.pair.Pair.{Pair}
use Rattle.gpu_alloc_pairs.specs.declared.pair.Side.{Side}
use Rattle.gpu_alloc_pairs.specs.declared.pair.State.{State}
use Rattle.gpu_alloc_pairs.specs.declared.pair.State.TheVariants.{Ready}
use Rattle.gpu_alloc_pairs.proofs.Rings.{Joins, Leaves, alone, joined, left, nothing, only_one, same_ring}

-- no half of it is free
pub none_is_not : (side : Option Side) → side ≡ None → IsSome side → ⊥
none_is_not None e h = cc
none_is_not (Some x) e h = cc

pub keeps_both : (s s' s'' : Slab Pair) → KeepsPairs s s' → KeepsPairs s' s'' → KeepsPairs s s''
keeps_both s s' s'' a b = record {
  free = λ k. b.free k ∙ a.free k;
  entries = λ k. b.entries k ∙ a.entries k;
  len = b.len ∙ a.len;
  vacant_key = b.vacant_key ∙ a.vacant_key;
  capacity = b.capacity ∙ a.capacity;
}

-- what the ring sees of a pair of this state
record HasState (slot : Option Pair) (state : State) : Type 0 where
  free : free_of slot ≡ free_side state
  next : next_of slot ≡ state_next state
  prev : prev_of slot ≡ state_prev state

has_state : (slot : Option Pair) (state : State) → IsOfState state slot → HasState slot state
has_state None state h = absurd h
has_state (Some p) state h = record { free = ap free_side h; next = ap state_next h; prev = ap state_prev h }

module _ (s s' : Slab Pair) (key : ℕ) (slot : Option Pair) (u : Updates s s' key slot) where
  -- on or not as before, where nothing is written
  on_before : (k : ℕ) → k ≢ key → IsOn s' k → IsOn s k
  on_before k ne h = subst IsSome (ap free_of (u.others k ne)) h

  -- the first pair of a ring
  pub first_links : (side : Side) → ((k : ℕ) → IsOn s k → ⊥) → IsOfState (Ready side key key) slot
      → IsLinked s' (Some key)
  first_links side none fits =
      let st = has_state slot (Ready side key key) fits in
      let on : IsOn s' key = subst IsSome (sym (ap free_of u.changed ∙ st.free)) refl in
      let only : (k : ℕ) → IsOn s' k → k ≡ key = λ k h. elim (cases_eq k key) [
        | inl e ↦ e
        | inr ne ↦ absurd (none k (on_before k ne h))
      ] in
      record {
        ring = alone (IsOn s') (next_in s') (prev_in s') key on only (ap next_of u.changed ∙ st.next)
            (ap prev_of u.changed ∙ st.prev);
        first_on = on;
        first_none = tt;
      }

  -- a pair of one leaves
  pub last_leaves : IsRing (IsOn s) (next_in s) (prev_in s) → IsOn s key → prev_in s key ≡ key → IsOff slot
      → IsLinked s' None
  last_leaves ring on own off =
      let none : (k : ℕ) → IsOn s' k → ⊥ = λ k h. elim (cases_eq k key) [
        | inl e ↦ none_is_not None refl (subst IsSome (ap (λ i. free_of (get s' i)) e ∙ ap free_of u.changed ∙ off) h)
        | inr ne ↦ ne (only_one (IsOn s) (IsOn s') (next_in s) (prev_in s) (next_in s') (prev_in s') ring key on own k
            (on_before k ne h))
      ] in
      record { ring = nothing (IsOn s') (next_in s') (prev_in s') none; first_on = tt; first_none = none }

-- a pair joins between the last and the first
pub pair_joins : (s0 s1 s2 s3 : Slab Pair) (first last key : ℕ) (side : Side) (slot : Option Pair)
    → IsRing (IsOn s0) (next_in s0) (prev_in s0) → IsOn s0 first → last ≡ prev_in s0 first
    → IsOff (get s0 key) → SetsPrev s0 s1 first key → SetsNext s1 s2 last key → Updates s2 s3 key slot
    → IsOfState (Ready side first last) slot → IsLinked s3 (Some key)
pair_joins s0 s1 s2 s3 first last key side slot ring on is x w1 w2 u fits =
    let kept = keeps_both s0 s1 s2 w1.keeps w2.keeps in
    let st = has_state slot (Ready side first last) fits in
    let off : (k : ℕ) → IsOn s0 k → k ≢ key = λ k h e. none_is_not (free_of (get s0 key)) x (subst (IsOn s0) e h) in
    let later : (k : ℕ) → k ≢ key → free_of (get s3 k) ≡ free_of (get s0 k) = λ k ne. ap free_of (u.others k ne) ∙ kept.free k in
    let last_on : IsOn s0 last = subst (IsOn s0) (sym is) (ring.prev_on first on) in
    let j : Joins (IsOn s0) (IsOn s3) (next_in s0) (prev_in s0) (next_in s3) (prev_in s3) ring key first = record {
      fresh = λ h. off key h refl;
      at = on;
      added = subst IsSome (sym (ap free_of u.changed ∙ st.free)) refl;
      kept = λ k h. subst IsSome (sym (later k (off k h))) h;
      cases = λ k h. elim (cases_eq k key) [ inl e ↦ inl e | inr ne ↦ inr (subst IsSome (later k ne) h) ];
      next_new = ap next_of u.changed ∙ st.next;
      prev_new = ap prev_of u.changed ∙ st.prev ∙ is;
      next_last = ap (next_in s3) (sym is) ∙ ap next_of (u.others last (off last last_on)) ∙ w2.at;
      prev_first = ap prev_of (u.others first (off first on)) ∙ w2.prev_same first ∙ w1.at;
      next_same = λ k h ne. ap next_of (u.others k (off k h)) ∙ w2.next_else k (λ e. ne (e ∙ is)) ∙ w1.next_same k;
      prev_same = λ k h ne. ap prev_of (u.others k (off k h)) ∙ w2.prev_same k ∙ w1.prev_else k ne;
    } in
    record {
      ring = joined (IsOn s0) (IsOn s3) (next_in s0) (prev_in s0) (next_in s3) (prev_in s3) ring key first j;
      first_on = j.added;
      first_none = tt;
    }

-- a pair of several leaves
pub pair_leaves : (s0 s1 s2 s3 : Slab Pair) (next prev key : ℕ) (slot : Option Pair)
    → IsRing (IsOn s0) (next_in s0) (prev_in s0) → IsOn s0 key → next ≡ next_in s0 key → prev ≡ prev_in s0 key
    → prev ≢ key → SetsNext s0 s1 prev next → SetsPrev s1 s2 next prev → Updates s2 s3 key slot → IsOff slot
    → IsLinked s3 (Some next)
pair_leaves s0 s1 s2 s3 next prev key slot ring on en ep several w1 w2 u x =
    let kept = keeps_both s0 s1 s2 w1.keeps w2.keeps in
    let later : (k : ℕ) → k ≢ key → free_of (get s3 k) ≡ free_of (get s0 k) = λ k ne. ap free_of (u.others k ne) ∙ kept.free k in
    let gone : IsOn s3 key → ⊥ = none_is_not (free_of (get s3 key)) (ap free_of u.changed ∙ x) in
    let off : (k : ℕ) → IsOn s3 k → k ≢ key = λ k h e. gone (subst (IsOn s3) e h) in
    let next_ne : next ≢ key = λ e. several (ep ∙ ap (prev_in s0) (sym e ∙ en) ∙ ring.prev_next key on) in
    let l : Leaves (IsOn s0) (IsOn s3) (next_in s0) (prev_in s0) (next_in s3) (prev_in s3) ring key = record {
      at = on;
      several = λ e. several (ep ∙ e);
      gone = gone;
      kept = λ k h. subst IsSome (later k (off k h)) h;
      stays_on = λ k h ne. subst IsSome (sym (later k ne)) h;
      next_over = ap (next_in s3) (sym ep) ∙ ap next_of (u.others prev several) ∙ w2.next_same prev ∙ w1.at ∙ en;
      prev_over = ap (prev_in s3) (sym en) ∙ ap prev_of (u.others next next_ne) ∙ w2.at ∙ ep;
      next_same = λ k h ne. ap next_of (u.others k (off k h)) ∙ w2.next_same k ∙ w1.next_else k (λ e. ne (e ∙ ep));
      prev_same = λ k h ne. ap prev_of (u.others k (off k h)) ∙ w2.prev_else k (λ e. ne (e ∙ en)) ∙ w1.prev_same k;
    } in
    record {
      ring = left (IsOn s0) (IsOn s3) (next_in s0) (prev_in s0) (next_in s3) (prev_in s3) ring key l;
      first_on = subst IsSome (sym (later next next_ne)) (subst (IsOn s0) (sym en) (ring.next_on key on));
      first_none = tt;
    }

some_to : (first : Option ℕ) (P Q : ℕ → Type 0) → ((k : ℕ) → P k → Q k) → IfSome first P → IfSome first Q
some_to None P Q f h = tt
some_to (Some k) P Q f h = f k h

none_to : (first : Option ℕ) (P Q : Type 0) → (P → Q) → IfNone first P → IfNone first Q
none_to None P Q f h = f h
none_to (Some k) P Q f h = tt

-- the ring stays where every pair does
pub still_linked : (s s' : Slab Pair) (first : Option ℕ) → ((k : ℕ) → get s' k ≡ get s k) → IsLinked s first
    → IsLinked s' first
still_linked s s' first same l =
    let to : (k : ℕ) → IsOn s k → IsOn s' k = λ k h. subst IsSome (sym (ap free_of (same k))) h in
    let from : (k : ℕ) → IsOn s' k → IsOn s k = λ k h. subst IsSome (ap free_of (same k)) h in
    record {
      ring = same_ring (IsOn s) (IsOn s') (next_in s) (prev_in s) (next_in s') (prev_in s') to from
          (λ k h. ap next_of (same k)) (λ k h. ap prev_of (same k)) l.ring;
      first_on = some_to first (IsOn s) (IsOn s') to l.first_on;
      first_none = none_to first ((k : ℕ) → IsOn s k → ⊥) ((k : ℕ) → IsOn s' k → ⊥) (λ none k h. none k (from k h))
          l.first_none;
    }

-- the pair that the ring was opened for comes in
pub linked_at : (s s' : Slab Pair) (key i : ℕ) (p : Pair) (state : State) (first : Option ℕ)
    → IsLinkedWith s key (IsOfState state) first → i ≡ key → Updates s s' i (Some p) → p.state ≡ state
    → IsLinked s' first
linked_at s s' key i p state first h is u fits =
    h s' (Some p) (subst (λ k. Updates s s' k (Some p)) is u) fits
