-- A ring of keys stays one when a key joins it before another, and when a key leaves it.
use Rattle.std.proofs.Common.{◌≡◌, ◌≢◌, ℕ, zero, suc, ◌⊎◌, inl, inr, refl, sym, ◌∙◌, ap, subst}
use Rattle.std.proofs.lemmas.Bool.{cases_eq}
use Rattle.gpu_alloc_pairs.specs.Ring.{IsRing, steps}

-- the last step apart
steps_more : (f : ℕ → ℕ) (i a : ℕ) → steps f (suc i) a ≡ f (steps f i a)
steps_more f zero a = refl
steps_more f (suc i) a = steps_more f i (f a)

stays : (f : ℕ → ℕ) (x : ℕ) → f x ≡ x → (i : ℕ) → steps f i x ≡ x
stays f x e zero = refl
stays f x e (suc i) = ap (steps f i) e ∙ stays f x e i

-- a ring that is one key
pub alone : (On : ℕ → Type 0) (next prev : ℕ → ℕ) (x : ℕ) → On x → ((k : ℕ) → On k → k ≡ x) → next x ≡ x → prev x ≡ x → IsRing On next prev
alone On next prev x on only n p = record {
  next_on = λ k h. subst On (sym (ap next (only k h) ∙ n)) on;
  prev_on = λ k h. subst On (sym (ap prev (only k h) ∙ p)) on;
  prev_next = λ k h. ap prev (ap next (only k h) ∙ n) ∙ p ∙ sym (only k h);
  next_prev = λ k h. ap next (ap prev (only k h) ∙ p) ∙ n ∙ sym (only k h);
  one = λ a b ha hb. (zero, only a ha ∙ sym (only b hb));
}

-- a ring of none
pub nothing : (On : ℕ → Type 0) (next prev : ℕ → ℕ) → ((k : ℕ) → On k → ⊥) → IsRing On next prev
nothing On next prev none = record {
  next_on = λ k h. absurd (none k h);
  prev_on = λ k h. absurd (none k h);
  prev_next = λ k h. absurd (none k h);
  next_prev = λ k h. absurd (none k h);
  one = λ a b ha hb. absurd (none a ha);
}

module _ (On On' : ℕ → Type 0) (next prev next' prev' : ℕ → ℕ) (ring : IsRing On next prev) where
  -- a key that comes before itself is the only one
  pub only_one : (x : ℕ) → On x → prev x ≡ x → (k : ℕ) → On k → k ≡ x
  only_one x on p k h =
      let n : next x ≡ x = ap next (sym p) ∙ ring.next_prev x on in
      let w = ring.one x k on h in
      sym w.1 ∙ stays next x n w.0

  -- x joins before h
  pub record Joins (x h : ℕ) : Type 0 where
    pub fresh : On x → ⊥
    pub at : On h
    pub added : On' x
    pub kept : (k : ℕ) → On k → On' k
    pub cases : (k : ℕ) → On' k → (k ≡ x) ⊎ On k
    pub next_new : next' x ≡ h
    pub prev_new : prev' x ≡ prev h
    pub next_last : next' (prev h) ≡ x
    pub prev_first : prev' h ≡ x
    pub next_same : (k : ℕ) → On k → k ≢ prev h → next' k ≡ next k
    pub prev_same : (k : ℕ) → On k → k ≢ h → prev' k ≡ prev k

  module _ (x h : ℕ) (j : Joins x h) where
    last_on : On (prev h)
    last_on = ring.prev_on h j.at

    walk : (i a b : ℕ) → On a → steps next i a ≡ b → (m : ℕ) × (steps next' m a ≡ b)
    walk zero a b on e = (zero, e)
    walk (suc i) a b on e =
        let w = walk i (next a) b (ring.next_on a on) e in
        elim (cases_eq a (prev h)) [
          | inl l ↦
              let two : next' (next' a) ≡ next a = ap next' (ap next' l ∙ j.next_last) ∙ j.next_new ∙ sym (ap next l ∙ ring.next_prev h j.at) in
              (suc (suc w.0), ap (steps next' w.0) two ∙ w.1)
          | inr ne ↦ (suc w.0, ap (steps next' w.0) (j.next_same a on ne) ∙ w.1)
        ]

    pub joined : IsRing On' next' prev'
    joined = record {
      next_on = λ k on. elim (j.cases k on) [
        | inl e ↦ subst On' (sym (ap next' e ∙ j.next_new)) (j.kept h j.at)
        | inr o ↦ elim (cases_eq k (prev h)) [
          | inl l ↦ subst On' (sym (ap next' l ∙ j.next_last)) j.added
          | inr ne ↦ subst On' (sym (j.next_same k o ne)) (j.kept (next k) (ring.next_on k o))
        ]
      ];
      prev_on = λ k on. elim (j.cases k on) [
        | inl e ↦ subst On' (sym (ap prev' e ∙ j.prev_new)) (j.kept (prev h) last_on)
        | inr o ↦ elim (cases_eq k h) [
          | inl l ↦ subst On' (sym (ap prev' l ∙ j.prev_first)) j.added
          | inr ne ↦ subst On' (sym (j.prev_same k o ne)) (j.kept (prev k) (ring.prev_on k o))
        ]
      ];
      prev_next = λ k on. elim (j.cases k on) [
        | inl e ↦ ap prev' (ap next' e ∙ j.next_new) ∙ j.prev_first ∙ sym e
        | inr o ↦ elim (cases_eq k (prev h)) [
          | inl l ↦ ap prev' (ap next' l ∙ j.next_last) ∙ j.prev_new ∙ sym l
          | inr ne ↦ ap prev' (j.next_same k o ne) ∙ j.prev_same (next k) (ring.next_on k o) (λ e. ne (sym (ring.prev_next k o) ∙ ap prev e)) ∙ ring.prev_next k o
        ]
      ];
      next_prev = λ k on. elim (j.cases k on) [
        | inl e ↦ ap next' (ap prev' e ∙ j.prev_new) ∙ j.next_last ∙ sym e
        | inr o ↦ elim (cases_eq k h) [
          | inl l ↦ ap next' (ap prev' l ∙ j.prev_first) ∙ j.next_new ∙ sym l
          | inr ne ↦ ap next' (j.prev_same k o ne) ∙ j.next_same (prev k) (ring.prev_on k o) (λ e. ne (sym (ring.next_prev k o) ∙ ap next e ∙ ring.next_prev h j.at)) ∙ ring.next_prev k o
        ]
      ];
      one = λ a b ha hb. elim (j.cases a ha) [
        | inl ea ↦ elim (j.cases b hb) [
          | inl eb ↦ (zero, ea ∙ sym eb)
          | inr ob ↦ let w = ring.one h b j.at ob in let v = walk w.0 h b j.at w.1 in (suc v.0, ap (steps next' v.0) (ap next' ea ∙ j.next_new) ∙ v.1)
        ]
        | inr oa ↦ elim (j.cases b hb) [
          | inl eb ↦ let w = ring.one a (prev h) oa last_on in let v = walk w.0 a (prev h) oa w.1 in (suc v.0, steps_more next' v.0 a ∙ ap next' v.1 ∙ j.next_last ∙ sym eb)
          | inr ob ↦ let w = ring.one a b oa ob in walk w.0 a b oa w.1
        ]
      ];
    }

  -- x leaves, and is not the only one
  pub record Leaves (x : ℕ) : Type 0 where
    pub at : On x
    pub several : prev x ≢ x
    pub gone : On' x → ⊥
    pub kept : (k : ℕ) → On' k → On k
    pub stays_on : (k : ℕ) → On k → k ≢ x → On' k
    pub next_over : next' (prev x) ≡ next x
    pub prev_over : prev' (next x) ≡ prev x
    pub next_same : (k : ℕ) → On' k → k ≢ prev x → next' k ≡ next k
    pub prev_same : (k : ℕ) → On' k → k ≢ next x → prev' k ≡ prev k

  module _ (x : ℕ) (l : Leaves x) where
    other : (k : ℕ) → On' k → k ≢ x
    other k h e = l.gone (subst On' e h)

    next_other : next x ≢ x
    next_other e = l.several (ap prev (sym e) ∙ ring.prev_next x l.at)

    -- the key before x is the only one that leads to it
    leads : (k : ℕ) → On k → next k ≡ x → k ≡ prev x
    leads k h e = sym (ring.prev_next k h) ∙ ap prev e

    comes : (k : ℕ) → On k → prev k ≡ x → k ≡ next x
    comes k h e = sym (ring.next_prev k h) ∙ ap next e

    pass : (i a b : ℕ) → On' a → On' b → steps next i a ≡ b → (m : ℕ) × (steps next' m a ≡ b)
    pass zero a b ha hb e = (zero, e)
    pass (suc zero) a b ha hb e = elim (cases_eq a (prev x)) [
      | inl q ↦ absurd (other b hb (sym e ∙ ap next q ∙ ring.next_prev x l.at))
      | inr ne ↦ (suc zero, l.next_same a ha ne ∙ e)
    ]
    pass (suc (suc i)) a b ha hb e = elim (cases_eq a (prev x)) [
      | inl q ↦
          let two : next (next a) ≡ next x = ap next (ap next q ∙ ring.next_prev x l.at) in
          let w = pass i (next x) b (l.stays_on (next x) (ring.next_on x l.at) next_other) hb (ap (steps next i) (sym two) ∙ e) in
          (suc w.0, ap (steps next' w.0) (ap next' q ∙ l.next_over) ∙ w.1)
      | inr ne ↦
          let w = pass (suc i) (next a) b (l.stays_on (next a) (ring.next_on a (l.kept a ha)) (λ z. ne (leads a (l.kept a ha) z))) hb e in
          (suc w.0, ap (steps next' w.0) (l.next_same a ha ne) ∙ w.1)
    ]

    pub left : IsRing On' next' prev'
    left = record {
      next_on = λ k on. elim (cases_eq k (prev x)) [
        | inl q ↦ subst On' (sym (ap next' q ∙ l.next_over)) (l.stays_on (next x) (ring.next_on x l.at) next_other)
        | inr ne ↦ subst On' (sym (l.next_same k on ne)) (l.stays_on (next k) (ring.next_on k (l.kept k on)) (λ z. ne (leads k (l.kept k on) z)))
      ];
      prev_on = λ k on. elim (cases_eq k (next x)) [
        | inl q ↦ subst On' (sym (ap prev' q ∙ l.prev_over)) (l.stays_on (prev x) (ring.prev_on x l.at) l.several)
        | inr ne ↦ subst On' (sym (l.prev_same k on ne)) (l.stays_on (prev k) (ring.prev_on k (l.kept k on)) (λ z. ne (comes k (l.kept k on) z)))
      ];
      prev_next = λ k on. elim (cases_eq k (prev x)) [
        | inl q ↦ ap prev' (ap next' q ∙ l.next_over) ∙ l.prev_over ∙ sym q
        | inr ne ↦
            let z : next k ≢ next x = λ e. other k on (sym (ring.prev_next k (l.kept k on)) ∙ ap prev e ∙ ring.prev_next x l.at) in
            let on2 : On' (next k) = l.stays_on (next k) (ring.next_on k (l.kept k on)) (λ z. ne (leads k (l.kept k on) z)) in
            ap prev' (l.next_same k on ne) ∙ l.prev_same (next k) on2 z ∙ ring.prev_next k (l.kept k on)
      ];
      next_prev = λ k on. elim (cases_eq k (next x)) [
        | inl q ↦ ap next' (ap prev' q ∙ l.prev_over) ∙ l.next_over ∙ sym q
        | inr ne ↦
            let z : prev k ≢ prev x = λ e. other k on (sym (ring.next_prev k (l.kept k on)) ∙ ap next e ∙ ring.next_prev x l.at) in
            let on2 : On' (prev k) = l.stays_on (prev k) (ring.prev_on k (l.kept k on)) (λ z. ne (comes k (l.kept k on) z)) in
            ap next' (l.prev_same k on ne) ∙ l.next_same (prev k) on2 z ∙ ring.next_prev k (l.kept k on)
      ];
      one = λ a b ha hb. let w = ring.one a b (l.kept a ha) (l.kept b hb) in pass w.0 a b ha hb w.1;
    }

-- what lies off a ring does not matter to it
pub same_ring : (On On' : ℕ → Type 0) (next prev next' prev' : ℕ → ℕ) → ((k : ℕ) → On k → On' k) → ((k : ℕ) → On' k → On k) → ((k : ℕ) → On' k → next' k ≡ next k)
    → ((k : ℕ) → On' k → prev' k ≡ prev k) → IsRing On next prev → IsRing On' next' prev'
same_ring On On' next prev next' prev' to from en ep r = record {
  next_on = λ k h. subst On' (sym (en k h)) (to (next k) (r.next_on k (from k h)));
  prev_on = λ k h. subst On' (sym (ep k h)) (to (prev k) (r.prev_on k (from k h)));
  prev_next = λ k h. ap prev' (en k h) ∙ ep (next k) (to (next k) (r.next_on k (from k h))) ∙ r.prev_next k (from k h);
  next_prev = λ k h. ap next' (ep k h) ∙ en (prev k) (to (prev k) (r.prev_on k (from k h))) ∙ r.next_prev k (from k h);
  one = λ a b ha hb. let w = r.one a b (from a ha) (from b hb) in (w.0, follow w.0 a ha ∙ w.1);
}
  where
    follow : (i a : ℕ) → On' a → steps next' i a ≡ steps next i a
    follow zero a h = refl
    follow (suc i) a h = ap (steps next' i) (en a h) ∙ follow i (next a) (to (next a) (r.next_on a (from a h)))
