-- The ranking has exactly the types that may serve, the lowest key first, and of one key the lowest index first; it is the
-- only such list, and what is worked out key by key.
use Rattle.std.proofs.Common.{ℕ, zero, suc, ◌+◌, ◌-◌, ◌<◌, ◌≤◌, ◌≡◌, ◌∙◌, sym, refl, Bool, true, false, ◌&&◌, ◌==◌, List, [], ◌∷◌, length, get_or, add-zero, zero-add, arith, inl, inr, if◌then◌else◌}
use Rattle.std.proofs.lemmas.Bool.{cases_eq}
use Rattle.std.proofs.lemmas.Bool.Decides.{nat_tests}
use Rattle.std.proofs.lemmas.List.Elements.{All-contains, filter_passes, Contains-get_or, Contains-append_left, Contains-append_right, Contains-append_cases}
use Rattle.std.proofs.lemmas.List.FromFn.{length-range_with_len, get_or-range_with_len}
use Rattle.std.specs.List.{Contains, range_with_len}
use Rattle.gpu_alloc_types.specs.Flags.{has_bit}
use Rattle.gpu_alloc_types.specs.declared.types.MemoryType.{MemoryType}
use Rattle.gpu_alloc_usage.specs.KeyByKey.{has_key, of_key, below_key}
use Rattle.gpu_alloc_usage.specs.Ranking.{compatible, key, where_differ, by_host, is_fast, ranking, serving, props_of, key_of, ServesUsage, IsRising, IsRanking}
use Rattle.gpu_alloc_usage.proofs.Ranking.Rising.{one-at, none-at, IsRising-append, IsRising-one, IsRising-filter, filter-kept, filter-has, in_order-found, in_order-has, in_order-rising, same_from_rising}

-- the type with index j may serve, and has this key
abbrev has_key_at : ℕ → ℕ → List MemoryType → ℕ → Bool
has_key_at u k ts j = compatible u (props_of ts j) && (key u (props_of ts j) == k)

-- a type that `of_key` names
Found : ℕ → ℕ → ℕ → List MemoryType → ℕ → Type 0
Found u k b ts i = (b ≤ i) × (i < b + length ts) × (has_key_at u k ts (i - b) ≡ true)

found-here : (u k b i : ℕ) (t : MemoryType) (ts : List MemoryType) → b ≡ i → has_key u k t ≡ true → Found u k b (t ∷ ts) i
unfolding Found
found-here u k b i t ts same e =
    let z : i - b ≡ 0 = omega arith in
    (omega arith, omega arith, rw z e)

found-later : (u k b i : ℕ) (t : MemoryType) (ts : List MemoryType) → Found u k (b + 1) ts i → Found u k b (t ∷ ts) i
unfolding Found
found-later u k b i t ts f =
    let low = f.0 in
    let high = f.1 in
    let z : i - b ≡ suc (i - (b + 1)) = omega arith in
    (omega arith, omega arith, rw z f.2)

found-more : (u k b i : ℕ) (t : MemoryType) (ts : List MemoryType) (h : Bool) → has_key u k t ≡ h → Contains (if h then b ∷ of_key u k (b + 1) ts else of_key u k (b + 1) ts) i → (Contains (of_key u k (b + 1) ts) i → Found u k (b + 1) ts i) → Found u k b (t ∷ ts) i
found-more u k b i t ts true e c later =
    elim (Contains-append_cases (b ∷ []) (of_key u k (b + 1) ts) i c) [
      | inl now ↦ found-here u k b i t ts (one-at b i now.0 now.1 now.2) e
      | inr after ↦ found-later u k b i t ts (later after)
    ]
found-more u k b i t ts false e c later = found-later u k b i t ts (later c)

of_key-found : (u k b : ℕ) (ts : List MemoryType) (i : ℕ) → Contains (of_key u k b ts) i → Found u k b ts i
unfolding of_key
of_key-found u k b [] i c = absurd (none-at i c)
of_key-found u k b (t ∷ ts) i c = found-more u k b i t ts (has_key u k t) refl c (of_key-found u k (b + 1) ts i)

of_key-has : (u k b j : ℕ) (ts : List MemoryType) → j < length ts → has_key_at u k ts j ≡ true → Contains (of_key u k b ts) (b + j)
unfolding of_key
of_key-has u k b j [] h e = let none : ⊥ = omega arith in absurd none
of_key-has u k b zero (t ∷ ts) h e = rw (e, add-zero b) (Contains-append_left (b ∷ []) (of_key u k (b + 1) ts) b (0, omega arith, refl))
of_key-has u k b (suc j) (t ∷ ts) h e =
    let n : b + suc j ≡ b + 1 + j = omega arith in
    let rest : Contains (of_key u k (b + 1) ts) (b + suc j) = rw n (of_key-has u k (b + 1) j ts (omega arith) e) in
    elim (has_key u k t) as (λ h'. Contains (if h' then b ∷ of_key u k (b + 1) ts else of_key u k (b + 1) ts) (b + suc j)) [
      | true ↦ Contains-append_right (b ∷ []) (of_key u k (b + 1) ts) (b + suc j) rest
      | false ↦ rest
    ]

of_key-IsRising : (u k b : ℕ) (ts : List MemoryType) → IsRising (λ _. 0) (of_key u k b ts)
unfolding of_key Found
of_key-IsRising u k b [] = λ x y less inside. let none : ⊥ = omega arith in absurd none
of_key-IsRising u k b (t ∷ ts) =
    let rest = of_key-IsRising u k (b + 1) ts in
    elim (has_key u k t) as (λ h. IsRising (λ _. 0) (if h then b ∷ of_key u k (b + 1) ts else of_key u k (b + 1) ts)) [
      | true ↦ IsRising-append (λ _. 0) (b ∷ []) (of_key u k (b + 1) ts) (IsRising-one (λ _. 0) b) rest (λ x y cx cy. let e = one-at b x cx.0 cx.1 cx.2 in let f = of_key-found u k (b + 1) ts y cy in let low = f.0 in inr (refl, omega arith))
      | false ↦ rest
    ]

both : (a : Bool) (x y : ℕ) → (a && (x == y)) ≡ true → (a ≡ true) × (x ≡ y)
both true x y e = (refl, grind (arith, nat_tests))
both false x y e = cc

both-back : (a : Bool) (x : ℕ) → a ≡ true → (a && (x == x)) ≡ true
both-back a x e = rw e (grind (arith, nat_tests))

of_key-at : (u k i : ℕ) (ts : List MemoryType) → Contains (of_key u k 0 ts) i → (i < length ts) × (compatible u (props_of ts i) ≡ true) × (key u (props_of ts i) ≡ k)
unfolding Found
of_key-at u k i ts c =
    let f = of_key-found u k 0 ts i c in
    let high = f.1 in
    let n : i - 0 ≡ i = omega arith in
    let h : has_key_at u k ts i ≡ true = rw n at f.2 in
    let w = both (compatible u (props_of ts i)) (key u (props_of ts i)) k h in
    (omega arith, w.0, w.1)

below_key-found : (u m i : ℕ) (ts : List MemoryType) → Contains (below_key u ts m) i → (k : ℕ) × (k < m) × Contains (of_key u k 0 ts) i
unfolding below_key
below_key-found u zero i ts c = absurd (none-at i c)
below_key-found u (suc m) i ts c =
    elim (Contains-append_cases (below_key u ts m) (of_key u m 0 ts) i c) [
      | inl before ↦ let w = below_key-found u m i ts before in let l = w.1 in (w.0, omega arith, w.2)
      | inr now ↦ (m, omega arith, now)
    ]

below_key-has : (u m k i : ℕ) (ts : List MemoryType) → k < m → Contains (of_key u k 0 ts) i → Contains (below_key u ts m) i
unfolding below_key
below_key-has u zero k i ts l c = let none : ⊥ = omega arith in absurd none
below_key-has u (suc m) k i ts l c =
    elim (cases_eq k m) [
      | inl same ↦ Contains-append_right (below_key u ts m) (of_key u m 0 ts) i (rw (← same) c)
      | inr other ↦ Contains-append_left (below_key u ts m) (of_key u m 0 ts) i (below_key-has u m k i ts (omega arith) c)
    ]

keyed : (k : ℕ → ℕ) (n : ℕ) (xs : List ℕ) → ((x : ℕ) → Contains xs x → k x ≡ n) → IsRising (λ _. 0) xs → IsRising k xs
keyed k n xs all r a b less inside =
    let at_a = all (get_or xs a 0) (Contains-get_or xs a 0 (omega arith)) in
    let at_b = all (get_or xs b 0) (Contains-get_or xs b 0 inside) in
    elim (r a b less inside) [
      | inl lower ↦ let none : ⊥ = omega arith in absurd none
      | inr both_are ↦ inr (at_a ∙ sym at_b, both_are.1)
    ]

below_key-IsRising : (u m : ℕ) (ts : List MemoryType) → IsRising (key_of u ts) (below_key u ts m)
unfolding below_key
below_key-IsRising u zero ts = λ a b less inside. let none : ⊥ = omega arith in absurd none
below_key-IsRising u (suc m) ts =
    IsRising-append (key_of u ts) (below_key u ts m) (of_key u m 0 ts) (below_key-IsRising u m ts)
    (keyed (key_of u ts) m (of_key u m 0 ts) (λ x c. (of_key-at u m x ts c).2) (of_key-IsRising u m 0 ts))
    (λ x y cx cy. let w = below_key-found u m x ts cx in let l = w.1 in let ex = (of_key-at u w.0 x ts w.2).2 in let ey = (of_key-at u m y ts cy).2 in inl (rw (ex, ey) l))

where_differ-le : (n : ℕ) (a b : Bool) → where_differ n a b ≤ n
where_differ-le n true true = omega arith
where_differ-le n true false = omega arith
where_differ-le n false true = omega arith
where_differ-le n false false = omega arith

key-small : (u p : ℕ) → key u p < 16
key-small u p =
    let a = where_differ-le 8 (has_bit p 1) (is_fast u) in
    let b = where_differ-le 4 (has_bit p 2) (by_host u) in
    let c = where_differ-le 2 (has_bit p 8) (has_bit u 4) in
    let d = where_differ-le 1 (has_bit p 4) (has_bit u 12) in
    omega arith

-- Key by key.

below_key-there : (u i : ℕ) (ts : List MemoryType) → Contains (below_key u ts 16) i → ServesUsage u ts i
below_key-there u i ts c =
    let w = below_key-found u 16 i ts c in
    let f = of_key-at u w.0 i ts w.2 in
    (f.0, f.1)

below_key-back : (u i : ℕ) (ts : List MemoryType) → ServesUsage u ts i → Contains (below_key u ts 16) i
below_key-back u i ts s =
    let k = key u (props_of ts i) in
    let c = of_key-has u k 0 i ts s.0 (both-back (compatible u (props_of ts i)) k s.1) in
    below_key-has u 16 k i ts (key-small u (props_of ts i)) (rw (zero-add i) at c)

below_key_IsRanking : (u : ℕ) (ts : List MemoryType) → IsRanking u ts (below_key u ts 16)
below_key_IsRanking u ts = record {
  exactly = λ i. (below_key-there u i ts, below_key-back u i ts);
  rising = below_key-IsRising u 16 ts;
}

-- Put in order.

range-found : (n t : ℕ) → Contains (range_with_len 0 n) t → t < n
range-found n t c =
    let inside : c.0 < n = rw (length-range_with_len 0 n) at c.1 in
    let same : 0 + c.0 ≡ t = sym (get_or-range_with_len 0 n c.0 t inside) ∙ c.2 in
    omega arith

range-has : (n t : ℕ) → t < n → Contains (range_with_len 0 n) t
range-has n t less = (t, rw (length-range_with_len 0 n) less, get_or-range_with_len 0 n t t less ∙ zero-add t)

range-rising : (n : ℕ) → IsRising (λ _. 0) (range_with_len 0 n)
range-rising n a b less inside =
    let b_in : b < n = rw (length-range_with_len 0 n) at inside in
    inr (refl, rw (get_or-range_with_len 0 n a 0 (omega arith), get_or-range_with_len 0 n b 0 b_in) (omega arith))

serving-there : (u i : ℕ) (ts : List MemoryType) → Contains (ranking u ts) i → ServesUsage u ts i
serving-there u i ts c =
    let serves = in_order-found (key_of u ts) (serving u ts) i c in
    let test : ℕ → Bool = λ t. compatible u (props_of ts t) in
    let all = range_with_len 0 (length ts) in
    (range-found (length ts) i (filter-kept test all i serves), All-contains (λ t. test t ≡ true) (serving u ts) i (filter_passes test all) serves)

serving-back : (u i : ℕ) (ts : List MemoryType) → ServesUsage u ts i → Contains (ranking u ts) i
serving-back u i ts s =
    in_order-has (key_of u ts) (serving u ts) i (filter-has (λ t. compatible u (props_of ts t)) (range_with_len 0 (length ts)) i s.1 (range-has (length ts) i s.0))

pub ranking_IsRanking : (u : ℕ) (ts : List MemoryType) → IsRanking u ts (ranking u ts)
ranking_IsRanking u ts = record {
  exactly = λ i. (serving-there u i ts, serving-back u i ts);
  rising = in_order-rising (key_of u ts) (serving u ts) (IsRising-filter (λ _. 0) (λ t. compatible u (props_of ts t)) (range_with_len 0 (length ts)) (range-rising (length ts)));
}

-- There is only one.

same_rankings : (u : ℕ) (ts : List MemoryType) (xs ys : List ℕ) → IsRanking u ts xs → IsRanking u ts ys → xs ≡ ys
same_rankings u ts xs ys x y =
    same_from_rising (key_of u ts) xs ys x.rising y.rising (λ t c. (y.exactly t).1 ((x.exactly t).0 c)) (λ t c. (x.exactly t).1 ((y.exactly t).0 c))

pub ranking-only : (u : ℕ) (ts : List MemoryType) (ranked : List ℕ) → IsRanking u ts ranked → ranked ≡ ranking u ts
ranking-only u ts ranked is_ranking = same_rankings u ts ranked (ranking u ts) is_ranking (ranking_IsRanking u ts)

pub ranking-from_keys : (u : ℕ) (ts : List MemoryType) → below_key u ts 16 ≡ ranking u ts
ranking-from_keys u ts = ranking-only u ts (below_key u ts 16) (below_key_IsRanking u ts)
