-- The ranking type by type and key by key, and the room that it takes.
use Rattle.std.proofs.Common.{ℕ, zero, suc, ◌+◌, ◌<◌, ◌≤◌, ◌≡◌, ◌∙◌, sym, ap, subst, refl, Bool, true, false, ◌&&◌, ◌==◌, nat_lt, List, [], ◌∷◌, ◌++◌, length, take, drop, get_or, add-one, add-zero, arith, if◌then◌else◌}
use Rattle.std.proofs.lemmas.Grind.{common_steps}
use Rattle.std.proofs.lemmas.Bool.Decides.{nat_tests}
use Rattle.std.proofs.lemmas.List.{take-append-drop, take_more}
use Rattle.gpu_alloc_types.specs.Flags.{property_bits}
use Rattle.gpu_alloc_types.specs.declared.types.MemoryType.{MemoryType}
use Rattle.gpu_alloc_usage.specs.KeyByKey.{has_key, of_key, below_key}
use Rattle.gpu_alloc_usage.specs.Ranking.{compatible, key}

-- How long it is.

-- how many types may serve a usage with a key below m
count_below : ℕ → ℕ → List MemoryType → ℕ
count_below u m [] = 0
count_below u m (t ∷ ts) = (if compatible u (property_bits t.props) && nat_lt (key u (property_bits t.props)) m then 1 else 0) + count_below u m ts

one_or_none-le : (b : Bool) (n m : ℕ) → n ≤ m → (if b then 1 else 0) + n ≤ suc m
one_or_none-le true n m h = omega arith
one_or_none-le false n m h = omega arith

count_below-le : (u m : ℕ) (ts : List MemoryType) → count_below u m ts ≤ length ts
unfolding count_below
count_below-le u m [] = omega arith
count_below-le u m (t ∷ ts) = one_or_none-le _ (count_below u m ts) (length ts) (count_below-le u m ts)

one_key_more : (c : Bool) (k m i : ℕ) (xs : List ℕ) (a b : ℕ) → a ≡ b + length xs → (if c && nat_lt k (suc m) then 1 else 0) + a ≡ (if c && nat_lt k m then 1 else 0) + b + length (if c && (k == m) then i ∷ xs else xs)
one_key_more true k m i xs a b h = grind (arith, nat_tests, common_steps)
one_key_more false k m i xs a b h = omega arith

count_below-suc : (u m i : ℕ) (ts : List MemoryType) → count_below u (suc m) ts ≡ count_below u m ts + length (of_key u m i ts)
unfolding count_below of_key
count_below-suc u m i [] = refl
count_below-suc u m i (t ∷ ts) = one_key_more (compatible u (property_bits t.props)) (key u (property_bits t.props)) m i (of_key u m (i + 1) ts) (count_below u (suc m) ts) (count_below u m ts) (count_below-suc u m (i + 1) ts)

no_key_below : (c : Bool) (k n : ℕ) → n ≡ 0 → (if c && nat_lt k 0 then 1 else 0) + n ≡ 0
no_key_below true k n h = grind (arith, nat_tests)
no_key_below false k n h = omega arith

count_below-zero : (u : ℕ) (ts : List MemoryType) → count_below u 0 ts ≡ 0
unfolding count_below
count_below-zero u [] = refl
count_below-zero u (t ∷ ts) = no_key_below (compatible u (property_bits t.props)) (key u (property_bits t.props)) (count_below u 0 ts) (count_below-zero u ts)

length-below_key : (u m : ℕ) (ts : List MemoryType) → length (below_key u ts m) ≡ count_below u m ts
unfolding below_key
length-below_key u zero ts = sym (count_below-zero u ts)
length-below_key u (suc m) ts = let a = length-below_key u m ts in let b = count_below-suc u m 0 ts in grind (arith, common_steps)

-- no more types are ranked than there are
pub length-below_key-le : (u m : ℕ) (ts : List MemoryType) → length (below_key u ts m) ≤ length ts
length-below_key-le u m ts = let a = length-below_key u m ts in let b = count_below-le u m ts in omega arith

-- One key more, and one type more.

pub below_key-more : (u m : ℕ) (ts : List MemoryType) → below_key u ts (m + 1) ≡ below_key u ts m ++ of_key u m 0 ts
unfolding below_key
below_key-more u m ts = rw (add-one m) refl

in_front : (b : Bool) (i : ℕ) (xs ys zs : List ℕ) → xs ≡ ys ++ zs → (if b then i ∷ xs else xs) ≡ (if b then i ∷ ys else ys) ++ zs
in_front true i xs ys zs h = ap (λ l. i ∷ l) h
in_front false i xs ys zs h = h

of_key-append : (u k i : ℕ) (xs ys : List MemoryType) → of_key u k i (xs ++ ys) ≡ of_key u k i xs ++ of_key u k (i + length xs) ys
unfolding of_key
of_key-append u k i [] ys = rw (add-zero i) refl
of_key-append u k i (x ∷ xs) ys =
    let e : i + 1 + length xs ≡ i + suc (length xs) = omega arith in
    let h : of_key u k (i + 1) (xs ++ ys) ≡ of_key u k (i + 1) xs ++ of_key u k (i + suc (length xs)) ys = rw (← e) (of_key-append u k (i + 1) xs ys) in
    in_front (has_key u k x) i (of_key u k (i + 1) (xs ++ ys)) (of_key u k (i + 1) xs) (of_key u k (i + suc (length xs)) ys) h

one_or_none-same : (b : Bool) (i j : ℕ) → i ≡ j → (if b then i ∷ [] else []) ≡ (if b then j ∷ [] else [])
one_or_none-same b i j e = rw e refl

pub of_key-more : (u k j : ℕ) (ts : List MemoryType) (d : MemoryType) → j < length ts → of_key u k 0 (take (j + 1) ts) ≡ of_key u k 0 (take j ts) ++ (if has_key u k (get_or ts j d) then j ∷ [] else [])
unfolding of_key
of_key-more u k j ts d h =
    let n : 0 + length (take j ts) ≡ j = grind (arith, common_steps) in
    let e = of_key-append u k 0 (take j ts) (get_or ts j d ∷ []) in
    rw (take_more ts j d h) (e ∙ ap (λ r. of_key u k 0 (take j ts) ++ r) (one_or_none-same (has_key u k (get_or ts j d)) _ j n))

of_key-take-le : (u k j : ℕ) (ts : List MemoryType) → length (of_key u k 0 (take j ts)) ≤ length (of_key u k 0 ts)
of_key-take-le u k j ts =
    let e = of_key-append u k 0 (take j ts) (drop j ts) in
    let w : of_key u k 0 ts ≡ of_key u k 0 (take j ts) ++ of_key u k (0 + length (take j ts)) (drop j ts) = subst (λ l. of_key u k 0 l ≡ of_key u k 0 (take j ts) ++ of_key u k (0 + length (take j ts)) (drop j ts)) (take-append-drop j ts) e in
    rw w (grind (arith, common_steps))

-- a type of this key still has its place to come
pub of_key-room : (u k j : ℕ) (ts : List MemoryType) (d : MemoryType) → j < length ts → has_key u k (get_or ts j d) ≡ true → length (of_key u k 0 (take j ts)) + 1 ≤ length (of_key u k 0 ts)
of_key-room u k j ts d h is_one =
    let a = of_key-take-le u k (j + 1) ts in
    let b : of_key u k 0 (take (j + 1) ts) ≡ of_key u k 0 (take j ts) ++ j ∷ [] = of_key-more u k j ts d h ∙ rw is_one refl in
    let c : length (of_key u k 0 (take (j + 1) ts)) ≡ length (of_key u k 0 (take j ts)) + 1 = rw b (grind (arith, common_steps)) in
    omega arith
