-- Free ranges that are sorted by object, then by start.
use Rattle.std.proofs.Common.{◌≡◌, inl, inr, ℕ, zero, suc, ◌+◌, ◌-◌, ◌<◌, Bool, true, false, List, length, get_or, refl, sym, ◌∙◌, ap, subst, arith}
use mathlib.Core.Bool.{true≢false}
use Rattle.std.proofs.lemmas.Bool.{cases_lt}
use Rattle.std.proofs.lemmas.Bool.Decides.{Decides-and, Decides-eqb, same_from_decides}
use Rattle.std.proofs.lemmas.Map.Keys.{IsDistinct-IsPermutation, IsDistinct-from_apart, apart_from_distinct}
use Rattle.std.specs.Bool.{Decides}
use Rattle.std.specs.Cmp.{nat_cmp_is}
use Rattle.std.specs.List.{IsDistinct}
use Rattle.std.specs.List.Sorted.{IsPermutation, IsSortedByKey}
use Rattle.std.specs.Ordering.{is_lt, nat_cmp, ordering_then}
use Rattle.std.specs.declared.cmp.Ordering.{Ordering}
use Rattle.std.specs.declared.cmp.Ordering.TheVariants.{Less, Equal}
use Rattle.gpu_alloc_types.specs.declared.types.FreeRange.{FreeRange}
use Rattle.gpu_alloc_base.specs.RangeOrder.{same_start, IsRangeBefore, AreInOrder}

-- by object, then by start
abbrev pub by_start : FreeRange → ℕ × ℕ
by_start r = (r.object, r.start)

abbrev pub start_cmp : ℕ × ℕ → ℕ × ℕ → Ordering
start_cmp x y = ordering_then (nat_cmp x.0 y.0) (nat_cmp x.1 y.1)

pub start_test : (r t : FreeRange) → Decides (same_start r t) ((r.object ≡ t.object) × (r.start ≡ t.start))
start_test r t = Decides-and _ _ (Decides-eqb r.object t.object) (Decides-eqb r.start t.start)

same_start-flips : (r t : FreeRange) → same_start r t ≡ same_start t r
same_start-flips r t = same_from_decides _ _ (start_test r t) ((λ q. let e = (start_test t r).0 q in (sym e.0, sym e.1)), (λ e. (start_test t r).1 (sym e.0, sym e.1)))

-- what is not true
is_false : (b : Bool) → (b ≡ true → ⊥) → b ≡ false
is_false true not_so = absurd (not_so refl)
is_false false not_so = refl

-- two that start apart
pub starts_apart : (r t : FreeRange) → (r.object ≡ t.object → r.start ≡ t.start → ⊥) → same_start r t ≡ false
starts_apart r t apart = is_false _ (λ q. let e = (start_test r t).0 q in apart e.0 e.1)

-- one that does not come after another lies before it, where they start apart
not_after : (r t : FreeRange) → is_lt (start_cmp (by_start t) (by_start r)) ≡ false → same_start r t ≡ false → IsRangeBefore r t
not_after r t not_less other = elim (cases_lt r.object t.object) [
  | inl lt ↦ inl lt
  | inr ge ↦ elim (cases_lt t.object r.object) [
    | inl less ↦ absurd (true≢false (ap (λ o. is_lt (ordering_then o (nat_cmp t.start r.start))) (nat_cmp_is t.object r.object Less less) ∙ not_less))
    | inr le ↦
        let one : r.object ≡ t.object = omega arith in
        let tied = nat_cmp_is t.object r.object Equal (sym one) in
        elim (cases_lt r.start t.start) [
          | inl lt ↦ inr (one, lt)
          | inr from ↦ elim (cases_lt t.start r.start) [
            | inl less ↦ let first = nat_cmp_is t.start r.start Less less in absurd (true≢false ((λ k. is_lt (ordering_then (tied k) (first k))) ∙ not_less))
            | inr to ↦ absurd (true≢false (sym ((start_test r t).1 (one, omega arith)) ∙ other))
          ]
        ]
  ]
]

before_trans : (r t u : FreeRange) → IsRangeBefore r t → IsRangeBefore t u → IsRangeBefore r u
before_trans r t u a b = elim a [
  | inl lt ↦ elim b [ inl more ↦ inl (omega arith) | inr same ↦ inl (omega (arith, same.0)) ]
  | inr same ↦ elim b [ inl more ↦ inl (omega (arith, same.0)) | inr again ↦ inr (same.0 ∙ again.0, omega (arith, same.1, again.1)) ]
]

-- each lies before those after it where it lies before the next
far : (ranges : List FreeRange) → ((k : ℕ) (d : FreeRange) → k + 1 < length ranges → IsRangeBefore (get_or ranges k d) (get_or ranges (k + 1) d))
    → (i n : ℕ) (d : FreeRange) → i + suc n < length ranges → IsRangeBefore (get_or ranges i d) (get_or ranges (i + suc n) d)
far ranges next i zero d lt = next i d lt
far ranges next i (suc n) d lt =
    let at : i + suc n + 1 ≡ i + suc (suc n) = omega arith in
    subst (λ k. IsRangeBefore (get_or ranges i d) (get_or ranges k d)) at
    (before_trans (get_or ranges i d) (get_or ranges (i + suc n) d) (get_or ranges (i + suc n + 1) d) (far ranges next i n d (omega arith)) (next (i + suc n) d (omega arith)))

-- sorted, ranges that start apart are in order
pub in_order : (old new : List FreeRange) → IsDistinct same_start old → IsPermutation old new → IsSortedByKey by_start start_cmp new → AreInOrder new
in_order old new distinct perm sorted i j d lt within =
    let apart = IsDistinct-IsPermutation same_start same_start-flips old new perm distinct in
    let at : i + suc (j - (i + 1)) ≡ j = omega arith in
    subst (λ k. IsRangeBefore (get_or new i d) (get_or new k d)) at
    (far new (λ k e more. not_after (get_or new k e) (get_or new (k + 1) e) (sorted k e (omega arith) more) (apart_from_distinct same_start new k (k + 1) e apart (omega arith) more))
    i (j - (i + 1)) d (omega arith))

-- ranges in order start apart
pub order_is_distinct : (ranges : List FreeRange) → AreInOrder ranges → IsDistinct same_start ranges
order_is_distinct ranges order = IsDistinct-from_apart same_start ranges (λ i j d lt within.
    starts_apart (get_or ranges i d) (get_or ranges j d) (λ object start. elim (order i j d lt within) [
      | inl less ↦ omega (arith, object)
      | inr same ↦ omega (arith, same.1, start)
    ]))
