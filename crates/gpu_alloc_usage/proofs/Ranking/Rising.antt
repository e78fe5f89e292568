-- Lists that rise by a key, and of one key by number: what is put together, filtered or put in order.
use Rattle.std.proofs.Common.{ℕ, zero, suc, ◌+◌, ◌-◌, ◌<◌, ◌≤◌, ◌≡◌, ◌∙◌, sym, subst, refl, Bool, true, false, cond, if◌then◌else◌, nat_lt, List, [], ◌∷◌, ◌++◌, length, get_or, arith, inl, inr, ◌⊎◌}
use Rattle.std.proofs.lemmas.Grind.{common_steps}
use Rattle.std.proofs.lemmas.Bool.{cases_lt}
use Rattle.std.proofs.lemmas.Bool.Decides.{nat_tests}
use Rattle.std.proofs.lemmas.List.{get_or_append_left, get_or-append_right}
use Rattle.std.proofs.lemmas.List.Elements.{All-filter, All-from_get_or, All-contains, Contains-get_or, Contains-append_left, Contains-append_right, Contains-append_cases}
use Rattle.std.specs.List.{All, Contains, filter}
use Rattle.gpu_alloc_usage.specs.Ranking.{Before, IsRising, put_in, in_order}

-- Elements.

pub one-at : (b i n : ℕ) → n < 1 → get_or (b ∷ []) n i ≡ i → b ≡ i
one-at b i zero l e = e
one-at b i (suc n) l e = omega arith

pub none-at : (i : ℕ) → Contains [] i → ⊥
none-at i c = let h : c.0 < 0 = c.1 in omega arith

pub All-from_contains : (P : ℕ → Type 0) (xs : List ℕ) → ((x : ℕ) → Contains xs x → P x) → All P xs
All-from_contains P xs h = λ k d inside. h (get_or xs k d) (Contains-get_or xs k d inside)

split_front : (t : ℕ) (xs : List ℕ) (x : ℕ) → Contains (t ∷ xs) x → (t ≡ x) ⊎ Contains xs x
split_front t xs x c =
    elim (Contains-append_cases (t ∷ []) xs x c) [
      | inl now ↦ inl (one-at t x now.0 now.1 now.2)
      | inr later ↦ inr later
    ]

join_front : (t : ℕ) (xs : List ℕ) (x : ℕ) → (t ≡ x) ⊎ Contains xs x → Contains (t ∷ xs) x
join_front t xs x (inl same) = Contains-append_left (t ∷ []) xs x (0, omega arith, same)
join_front t xs x (inr later) = Contains-append_right (t ∷ []) xs x later

-- One list after another.

pub IsRising-append : (k : ℕ → ℕ) (xs ys : List ℕ) → IsRising k xs → IsRising k ys → ((x y : ℕ) → Contains xs x → Contains ys y → Before k x y) → IsRising k (xs ++ ys)
IsRising-append k xs ys rx ry across a b less inside =
    let total : length (xs ++ ys) ≡ length xs + length ys = grind (arith, common_steps) in
    elim (cases_lt b (length xs)) [
      | inl b_in ↦ rw (get_or_append_left xs ys 0 a (omega arith), get_or_append_left xs ys 0 b b_in) (rx a b less b_in)
      | inr b_out ↦ elim (cases_lt a (length xs)) [
        | inl a_in ↦ rw (get_or_append_left xs ys 0 a a_in, get_or-append_right xs ys (length xs) b 0 refl b_out) (across (get_or xs a 0) (get_or ys (b - length xs) 0) (Contains-get_or xs a 0 a_in) (Contains-get_or ys (b - length xs) 0 (omega arith)))
        | inr a_out ↦ rw (get_or-append_right xs ys (length xs) a 0 refl a_out, get_or-append_right xs ys (length xs) b 0 refl b_out) (ry (a - length xs) (b - length xs) (omega arith) (omega arith))
      ]
    ]

pub IsRising-one : (k : ℕ → ℕ) (x : ℕ) → IsRising k (x ∷ [])
IsRising-one k x a b less inside = let none : ⊥ = omega arith in absurd none

-- What a filter leaves.

pub filter-kept : (p : ℕ → Bool) (xs : List ℕ) (x : ℕ) → Contains (filter p xs) x → Contains xs x
filter-kept p xs x c = All-contains (λ y. Contains xs y) (filter p xs) x (All-filter p (λ y. Contains xs y) xs (All-from_contains (λ y. Contains xs y) xs (λ y h. h))) c

filter-front : (p : ℕ → Bool) (y : ℕ) (ys : List ℕ) → p y ≡ true → Contains (filter p (y ∷ ys)) y
filter-front p y ys e = rw e (Contains-append_left (y ∷ []) (filter p ys) y (0, omega arith, refl))

filter-later : (p : ℕ → Bool) (y : ℕ) (ys : List ℕ) (x : ℕ) → Contains (filter p ys) x → Contains (filter p (y ∷ ys)) x
filter-later p y ys x c =
    elim (p y) as (λ b. Contains (cond b (y ∷ filter p ys) (filter p ys)) x) [
      | true ↦ Contains-append_right (y ∷ []) (filter p ys) x c
      | false ↦ c
    ]

pub filter-has : (p : ℕ → Bool) (xs : List ℕ) (x : ℕ) → p x ≡ true → Contains xs x → Contains (filter p xs) x
filter-has p [] x e c = absurd (none-at x c)
filter-has p (y ∷ ys) x e c =
    elim (Contains-append_cases (y ∷ []) ys x c) [
      | inl now ↦ let same = one-at y x now.0 now.1 now.2 in subst (λ z. Contains (filter p (y ∷ ys)) z) same (filter-front p y ys (rw same e))
      | inr later ↦ filter-later p y ys x (filter-has p ys x e later)
    ]

IsRising-tail : (k : ℕ → ℕ) (x : ℕ) (xs : List ℕ) → IsRising k (x ∷ xs) → IsRising k xs
IsRising-tail k x xs r a b less inside = r (suc a) (suc b) (omega arith) (omega arith)

IsRising-head : (k : ℕ → ℕ) (x : ℕ) (xs : List ℕ) → IsRising k (x ∷ xs) → All (λ y. Before k x y) xs
IsRising-head k x xs r = All-from_get_or (λ y. Before k x y) xs 0 (λ i inside. r 0 (suc i) (omega arith) (omega arith))

-- what is left of a rising list rises
pub IsRising-filter : (k : ℕ → ℕ) (p : ℕ → Bool) (xs : List ℕ) → IsRising k xs → IsRising k (filter p xs)
IsRising-filter k p [] r = r
IsRising-filter k p (x ∷ xs) r =
    let rest = IsRising-filter k p xs (IsRising-tail k x xs r) in
    let behind = All-filter p (λ y. Before k x y) xs (IsRising-head k x xs r) in
    elim (p x) as (λ b. IsRising k (cond b (x ∷ filter p xs) (filter p xs))) [
      | true ↦ IsRising-append k (x ∷ []) (filter p xs) (IsRising-one k x) rest (λ y z cy cz. subst (λ w. Before k w z) (one-at x y cy.0 cy.1 cy.2) (All-contains (λ w. Before k x w) (filter p xs) z behind cz))
      | false ↦ rest
    ]

-- What is put in order.

found-where : (b : Bool) (s t : ℕ) (rest after : List ℕ) (x : ℕ) → (Contains after x → (t ≡ x) ⊎ Contains rest x) → Contains (if b then s ∷ after else t ∷ s ∷ rest) x → (t ≡ x) ⊎ Contains (s ∷ rest) x
found-where true s t rest after x later c =
    elim (split_front s after x c) [
      | inl here ↦ inr (join_front s rest x (inl here))
      | inr behind ↦ elim (later behind) [
        | inl same ↦ inl same
        | inr old ↦ inr (join_front s rest x (inr old))
      ]
    ]
found-where false s t rest after x later c = split_front t (s ∷ rest) x c

put_in-found : (k : ℕ → ℕ) (t : ℕ) (xs : List ℕ) (x : ℕ) → Contains (put_in k t xs) x → (t ≡ x) ⊎ Contains xs x
unfolding put_in
put_in-found k t [] x c = split_front t [] x c
put_in-found k t (s ∷ rest) x c = found-where (nat_lt (k s) (k t)) s t rest (put_in k t rest) x (put_in-found k t rest x) c

has-where : (b : Bool) (s t : ℕ) (rest after : List ℕ) (x : ℕ) → ((t ≡ x) ⊎ Contains rest x → Contains after x) → (t ≡ x) ⊎ Contains (s ∷ rest) x → Contains (if b then s ∷ after else t ∷ s ∷ rest) x
has-where true s t rest after x later (inl same) = join_front s after x (inr (later (inl same)))
has-where true s t rest after x later (inr c) =
    elim (split_front s rest x c) [
      | inl here ↦ join_front s after x (inl here)
      | inr old ↦ join_front s after x (inr (later (inr old)))
    ]
has-where false s t rest after x later c = join_front t (s ∷ rest) x c

put_in-has : (k : ℕ → ℕ) (t : ℕ) (xs : List ℕ) (x : ℕ) → (t ≡ x) ⊎ Contains xs x → Contains (put_in k t xs) x
unfolding put_in
put_in-has k t [] x c = join_front t [] x c
put_in-has k t (s ∷ rest) x c = has-where (nat_lt (k s) (k t)) s t rest (put_in k t rest) x (put_in-has k t rest x) c

pub in_order-found : (k : ℕ → ℕ) (xs : List ℕ) (x : ℕ) → Contains (in_order k xs) x → Contains xs x
unfolding in_order
in_order-found k [] x c = c
in_order-found k (t ∷ rest) x c =
    elim (put_in-found k t (in_order k rest) x c) [
      | inl same ↦ join_front t rest x (inl same)
      | inr later ↦ join_front t rest x (inr (in_order-found k rest x later))
    ]

pub in_order-has : (k : ℕ → ℕ) (xs : List ℕ) (x : ℕ) → Contains xs x → Contains (in_order k xs) x
unfolding in_order
in_order-has k [] x c = c
in_order-has k (t ∷ rest) x c =
    elim (split_front t rest x c) [
      | inl same ↦ put_in-has k t (in_order k rest) x (inl same)
      | inr later ↦ put_in-has k t (in_order k rest) x (inr (in_order-has k rest x later))
    ]

IsRising-cons : (k : ℕ → ℕ) (x : ℕ) (xs : List ℕ) → IsRising k xs → ((y : ℕ) → Contains xs y → Before k x y) → IsRising k (x ∷ xs)
IsRising-cons k x xs r before = IsRising-append k (x ∷ []) xs (IsRising-one k x) r (λ y z cy cz. subst (λ w. Before k w z) (one-at x y cy.0 cy.1 cy.2) (before z cz))

before-all : (k : ℕ → ℕ) (x : ℕ) (xs : List ℕ) → IsRising k (x ∷ xs) → (y : ℕ) → Contains xs y → Before k x y
before-all k x xs r y c = All-contains (λ w. Before k x w) xs y (IsRising-head k x xs r) c

Before-le : (k : ℕ → ℕ) (s t : ℕ) → Before k s t → k s ≤ k t
Before-le k s t (inl lower) = omega arith
Before-le k s t (inr same) = let e = same.0 in omega arith

Before-from_le : (k : ℕ → ℕ) (s t : ℕ) → k s ≤ k t → s < t → Before k s t
Before-from_le k s t le less =
    elim (cases_lt (k s) (k t)) [
      | inl lower ↦ inl lower
      | inr not_lower ↦ inr (omega arith, less)
    ]

lower-from_test : (a b : ℕ) → nat_lt a b ≡ true → a < b
lower-from_test a b e = grind (arith, nat_tests)

not_lower-from_test : (a b : ℕ) → nat_lt a b ≡ false → b ≤ a
not_lower-from_test a b e = grind (arith, nat_tests)

rising-where : (k : ℕ → ℕ) (b : Bool) (s t : ℕ) (rest : List ℕ) → nat_lt (k s) (k t) ≡ b → IsRising k (s ∷ rest) → ((x : ℕ) → Contains (s ∷ rest) x → t < x) → IsRising k (put_in k t rest) → IsRising k (if b then s ∷ put_in k t rest else t ∷ s ∷ rest)
rising-where k true s t rest e r low placed =
    IsRising-cons k s (put_in k t rest) placed
    (λ y c. elim (put_in-found k t rest y c) [
      | inl same ↦ inl (rw (← same) (lower-from_test (k s) (k t) e))
      | inr old ↦ before-all k s rest r y old
    ])
rising-where k false s t rest e r low placed =
    let le = not_lower-from_test (k s) (k t) e in
    IsRising-cons k t (s ∷ rest) r
    (λ y c. elim (split_front s rest y c) [
      | inl same ↦ Before-from_le k t y (rw (← same) le) (low y c)
      | inr old ↦ let later = Before-le k s y (before-all k s rest r y old) in Before-from_le k t y (omega arith) (low y c)
    ])

put_in-rising : (k : ℕ → ℕ) (t : ℕ) (xs : List ℕ) → IsRising k xs → ((x : ℕ) → Contains xs x → t < x) → IsRising k (put_in k t xs)
unfolding put_in
put_in-rising k t [] r low = IsRising-one k t
put_in-rising k t (s ∷ rest) r low =
    rising-where k (nat_lt (k s) (k t)) s t rest refl r low (put_in-rising k t rest (IsRising-tail k s rest r) (λ x c. low x (join_front s rest x (inr c))))

lower_number : (s t : ℕ) → Before (λ _. 0) s t → s < t
lower_number s t (inl none) = omega arith
lower_number s t (inr same) = same.1

-- numbers that rise, put in order, rise by the key
pub in_order-rising : (k : ℕ → ℕ) (xs : List ℕ) → IsRising (λ _. 0) xs → IsRising k (in_order k xs)
unfolding in_order
in_order-rising k [] r = λ a b less inside. let none : ⊥ = omega arith in absurd none
in_order-rising k (t ∷ rest) r =
    put_in-rising k t (in_order k rest) (in_order-rising k rest (IsRising-tail (λ _. 0) t rest r))
    (λ x c. lower_number t x (before-all (λ _. 0) t rest r x (in_order-found k rest x c)))

-- There is only one.

never_before_itself : (k : ℕ → ℕ) (t : ℕ) → Before k t t → ⊥
never_before_itself k t (inl lower) = omega arith
never_before_itself k t (inr same) = let less = same.1 in omega arith

never_both_before : (k : ℕ → ℕ) (s t : ℕ) → Before k s t → Before k t s → ⊥
never_both_before k s t (inl a) (inl b) = omega arith
never_both_before k s t (inl a) (inr b) = let e = b.0 in omega arith
never_both_before k s t (inr a) (inl b) = let e = a.0 in omega arith
never_both_before k s t (inr a) (inr b) = let x = a.1 in let y = b.1 in omega arith

same_first : (k : ℕ → ℕ) (x y : ℕ) (xs ys : List ℕ) → IsRising k (x ∷ xs) → IsRising k (y ∷ ys) → Contains (y ∷ ys) x → Contains (x ∷ xs) y → x ≡ y
same_first k x y xs ys rx ry cx cy =
    elim (split_front y ys x cx) [
      | inl same ↦ sym same
      | inr x_later ↦ elim (split_front x xs y cy) [
        | inl same ↦ same
        | inr y_later ↦ absurd (never_both_before k y x (before-all k y ys ry x x_later) (before-all k x xs rx y y_later))
      ]
    ]

-- what the tail of one has, the tail of the other has
same_later : (k : ℕ → ℕ) (x y : ℕ) (xs ys : List ℕ) → x ≡ y → IsRising k (x ∷ xs) → (t : ℕ) → Contains (y ∷ ys) t → Contains xs t → Contains ys t
same_later k x y xs ys same rx t ct c =
    elim (split_front y ys t ct) [
      | inl here ↦ absurd (never_before_itself k x (subst (λ w. Before k x w) (sym (same ∙ here)) (before-all k x xs rx t c)))
      | inr later ↦ later
    ]

-- rising lists with the same elements are one
pub same_from_rising : (k : ℕ → ℕ) (xs ys : List ℕ) → IsRising k xs → IsRising k ys → ((t : ℕ) → Contains xs t → Contains ys t) → ((t : ℕ) → Contains ys t → Contains xs t) → xs ≡ ys
same_from_rising k [] [] rx ry there back = refl
same_from_rising k [] (y ∷ ys) rx ry there back = absurd (none-at y (back y (join_front y ys y (inl refl))))
same_from_rising k (x ∷ xs) [] rx ry there back = absurd (none-at x (there x (join_front x xs x (inl refl))))
same_from_rising k (x ∷ xs) (y ∷ ys) rx ry there back =
    let first = same_first k x y xs ys rx ry (there x (join_front x xs x (inl refl))) (back y (join_front y ys y (inl refl))) in
    let rest = same_from_rising k xs ys (IsRising-tail k x xs rx) (IsRising-tail k y ys ry)
    (λ t c. same_later k x y xs ys first rx t (there t (join_front x xs t (inr c))) c)
    (λ t c. same_later k y x ys xs (sym first) ry t (back t (join_front y ys t (inr c))) c) in
    λ i. first i ∷ rest i
