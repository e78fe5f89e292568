-- The next power of two, and the exponent of one.
use Rattle.std.proofs.Common.{◌≡◌, ◌≤◌, ◌<◌, ◌⊎◌, inl, inr, ◌*◌, ◌+◌, ◌-◌, ◌^◌, ℕ, zero, suc, true, false, cond, nat_le, refl, sym, ◌∙◌, ap, subst, arith, w64, ◌/◌, ◌%◌, IsTrue, ◌==◌, count_ones}
use Rattle.std.specs.Prelude.{max}
use Rattle.std.specs.Int.{trailing_zeros, bit_at, is_power_of_two}
use Rattle.std.specs.Int.Count.{ones_step, count_leading_zeros}
use Rattle.std.proofs.lemmas.Bool.{cases_eq}
use Rattle.std.proofs.lemmas.Bool.Decides.{nat_tests}
use Rattle.std.proofs.lemmas.Nat.{pow_pos, zero_from_ones, ones_le_self, leading_length}
use Rattle.std.proofs.lemmas.Nat.Bits.{bit_at-trailing_zeros, bit_at-pow_other}
use Rattle.std.proofs.Math.Pow.{pow_mono}
use Rattle.gpu_alloc_base.specs.AlignMasks.{IsAlignMask}
use Rattle.gpu_alloc_base.specs.Sizes.{doubled_up, next_power_of_two, IsNextPowerOfTwo}

-- a power that is above another has the greater exponent
exponent : (j k : ℕ) → 2 ^ j < 2 ^ k → j < k
exponent j k less = elim (split j k) [ inl lt ↦ lt | inr le ↦ absurd (let more : 2 ^ k ≤ 2 ^ j = pow_mono le in omega arith) ]
  where
    split : (a b : ℕ) → (a < b) ⊎ (b ≤ a)
    split a b = elim (nat_le b a) as (λ t. nat_le b a ≡ t → (a < b) ⊎ (b ≤ a)) [ true ↦ λ e. inr (grind (arith, nat_tests)) | false ↦ λ e. inl (grind (arith, nat_tests)) ] refl

-- what doubling finds from 2^j on, which is not above any power of two that is enough
doubled : (n j x : ℕ) → x ≤ 2 ^ (j + n) → ((k : ℕ) → x ≤ 2 ^ k → 2 ^ j ≤ 2 ^ k) → IsNextPowerOfTwo x (doubled_up n (2 ^ j) x)
unfolding doubled_up
doubled zero j x enough least =
    let same : j + 0 ≡ j = omega arith in
    record { power = (j, refl); enough = subst (λ m. x ≤ 2 ^ m) same enough; least = least }
doubled (suc n) j x enough least =
    elim (nat_le x (2 ^ j)) as (λ b. nat_le x (2 ^ j) ≡ b → IsNextPowerOfTwo x (cond b (2 ^ j) (doubled_up n (2 * 2 ^ j) x))) [
      | true ↦ λ e. record { power = (j, refl); enough = grind (arith, nat_tests); least = least }
      | false ↦ λ e.
          let above : 2 ^ j < x = grind (arith, nat_tests) in
          let double : 2 ^ (suc j) ≡ 2 * 2 ^ j = omega arith in
          let same : j + suc n ≡ suc j + n = omega arith in
          let more : x ≤ 2 ^ (suc j + n) = subst (λ m. x ≤ 2 ^ m) same enough in
          subst (λ p. IsNextPowerOfTwo x (doubled_up n p x)) double (doubled n (suc j) x more (λ k is. let lt : j < k = exponent j k (omega arith) in pow_mono {i = suc j} {j = k} (omega arith)))
    ] refl

pub is_next_power_of_two : (x : ℕ) → x ≤ 2 ^ 64 → IsNextPowerOfTwo x (next_power_of_two x)
is_next_power_of_two x le = doubled 64 0 x le (λ k is. pow_mono {i = 0} {j = k} (omega arith))

-- what doubling finds is a power of two, and enough where it is less than the last one
doubled_enough : (n j x : ℕ) → doubled_up n (2 ^ j) x < 2 ^ (j + n) → ((k : ℕ) × (doubled_up n (2 ^ j) x ≡ 2 ^ k)) × (x ≤ doubled_up n (2 ^ j) x)
unfolding doubled_up
doubled_enough zero j x lt = let same : j + 0 ≡ j = omega arith in absurd (omega (arith, lt, ap (λ k. 2 ^ k) same))
doubled_enough (suc n) j x lt =
    elim (nat_le x (2 ^ j)) as (λ b. nat_le x (2 ^ j) ≡ b → cond b (2 ^ j) (doubled_up n (2 * 2 ^ j) x) < 2 ^ (j + suc n) → ((k : ℕ) × (cond b (2 ^ j) (doubled_up n (2 * 2 ^ j) x) ≡ 2 ^ k)) × (x ≤ cond b (2 ^ j) (doubled_up n (2 * 2 ^ j) x))) [
      | true ↦ λ e _. ((j, refl), grind (arith, nat_tests))
      | false ↦ λ e less.
          let double : 2 ^ suc j ≡ 2 * 2 ^ j = omega arith in
          let same : j + suc n ≡ suc j + n = omega arith in
          let below : doubled_up n (2 * 2 ^ j) x < 2 ^ (suc j + n) = subst (λ k. doubled_up n (2 * 2 ^ j) x < 2 ^ k) same less in
          subst (λ p. ((k : ℕ) × (doubled_up n p x ≡ 2 ^ k)) × (x ≤ doubled_up n p x)) double (doubled_enough n (suc j) x (subst (λ p. doubled_up n p x < 2 ^ (suc j + n)) (sym double) below))
    ] refl lt

-- a next power of two below 2^64 is enough, whatever it is of
pub next_is_enough : (x : ℕ) → next_power_of_two x < 2 ^ 64 → ((k : ℕ) × (next_power_of_two x ≡ 2 ^ k)) × (x ≤ next_power_of_two x)
next_is_enough x lt = doubled_enough 64 0 x lt

-- a power of two has as many zeros below its only one
pub trailing_zeros-power : (n k : ℕ) → n ≡ 2 ^ k → n < 2 ^ 64 → (n ≡ 2 ^ trailing_zeros w64 n) × (trailing_zeros w64 n < 64)
trailing_zeros-power n k e fits =
    let some : 0 < n = omega (arith, e, pow_pos k) in
    let lowest = bit_at-trailing_zeros w64 n some fits in
    elim (cases_eq (trailing_zeros w64 n) k) [
      | inl same ↦ (e ∙ ap (λ i. 2 ^ i) (sym same), lowest.0)
      | inr other ↦ absurd (let one = lowest.1 in
          let none = ap (λ m. bit_at m (trailing_zeros w64 n)) e ∙ bit_at-pow_other k (trailing_zeros w64 n) other in
          omega (arith, one, none))
    ]

-- the least power of two that is enough, by its exponent
pub least_exponent : (x r : ℕ) → x ≤ 2 ^ 64 → x ≤ 2 ^ r → ((k : ℕ) → x ≤ 2 ^ k → r ≤ k) → next_power_of_two x ≡ 2 ^ r
least_exponent x r bound enough least =
    let n = is_next_power_of_two x bound in
    let up : next_power_of_two x ≤ 2 ^ r = n.least r enough in
    let j : ℕ = n.power.0 in
    let e : next_power_of_two x ≡ 2 ^ j = n.power.1 in
    let le : r ≤ j = least j (omega (arith, n.enough, e)) in
    let down : 2 ^ r ≤ 2 ^ j = pow_mono le in
    omega (arith, up, e, down)

-- it is the number of digits of the number below
pub digits_are_least : (x : ℕ) → x < 2 ^ 64 → next_power_of_two x ≡ 2 ^ (64 - count_leading_zeros 64 (x - 1))
digits_are_least x short =
    let below = leading_length 64 (x - 1) (omega arith) in
    let m = below.0 in
    let same : m ≡ 64 - count_leading_zeros 64 (x - 1) = omega (arith, below.1) in
    let least : (k : ℕ) → x ≤ 2 ^ k → m ≤ k = λ k is.
    let positive = pow_pos k in
    let lt : m < suc k = exponent m (suc k) (omega (arith, below.3, is, positive)) in omega (arith, lt) in
    subst (λ r. next_power_of_two x ≡ 2 ^ r) same (least_exponent x m (omega arith) (omega (arith, below.2)) least)

-- a number with one bit set is a power of two
power_within : (d n : ℕ) → n ≤ d → count_ones n ≡ 1 → (k : ℕ) × (n ≡ 2 ^ k)
power_within zero n le one = absurd (omega (arith, le, one, ones_le_self n))
power_within (suc d) n le one = by_lowest (n % 2) refl (λ small. power_within d (n / 2) (omega (arith, le, small)))
  where
    step : count_ones n ≡ n % 2 + count_ones (n / 2)
    step = let s = ones_step n in omega (arith, s)

    by_lowest : (b : ℕ) → n % 2 ≡ b → (1 ≤ n → count_ones (n / 2) ≡ 1 → (k : ℕ) × (n / 2 ≡ 2 ^ k)) → (k : ℕ) × (n ≡ 2 ^ k)
    by_lowest zero e half =
        let some : 1 ≤ n = let ones = ones_le_self n in omega (arith, one, ones) in
        let k = half some (omega (arith, e, one, step)) in
        (suc k.0, (let twice : 2 ^ suc k.0 ≡ 2 * 2 ^ k.0 = omega arith in omega (arith, k.1, e, twice)))
    by_lowest (suc b) e half = let none = zero_from_ones (n / 2) (omega (arith, e, one, step)) in (0, omega (arith, none, e))

pub power_of_bit : (n : ℕ) → IsTrue (is_power_of_two n) → (k : ℕ) × (n ≡ 2 ^ k)
power_of_bit n one = power_within n n (omega arith) (let test : (count_ones n == 1) ≡ true = one in grind (arith, nat_tests))

-- a power of two has one bit set
one_bit : (k : ℕ) → count_ones (2 ^ k) ≡ 1
one_bit zero = let step = ones_step 1 in omega (arith, step, ones_le_self (1 / 2))
one_bit (suc k) =
    let twice : 2 ^ suc k ≡ 2 * 2 ^ k = omega arith in
    let half : 2 ^ suc k / 2 ≡ 2 ^ k = omega (arith, twice) in
    let step = ones_step (2 ^ suc k) in
    let rest : count_ones (2 ^ suc k / 2) ≡ 1 = ap count_ones half ∙ one_bit k in
    omega (arith, step, rest, twice)

pub bit_of_power : (k : ℕ) → IsTrue (is_power_of_two (2 ^ k))
bit_of_power k = let one : count_ones (2 ^ k) ≡ 1 = one_bit k in let test : (count_ones (2 ^ k) == 1) ≡ true = grind (arith, nat_tests) in test

-- one less than a power of two is an alignment mask
pub align_mask_of_power : (k : ℕ) → k ≤ 63 → IsAlignMask (2 ^ k - 1)
align_mask_of_power k le =
    let some = pow_pos k in
    let whole : 2 ^ k - 1 + 1 ≡ 2 ^ k = omega (arith, some) in
    let bound : 2 ^ k ≤ 2 ^ 63 = pow_mono {i = k} {j = 63} le in
    record { power = rw whole (bit_of_power k); bound = omega (arith, whole, bound) }

-- a power of two is its own next one
pub power_is_next : (n k : ℕ) → n ≡ 2 ^ k → n ≤ 2 ^ 64 → next_power_of_two n ≡ n
power_is_next n k is bound = let next = is_next_power_of_two n bound in let least = next.least k (omega (arith, is)) in omega (arith, next.enough, least, is)

-- the greater of two powers is one
pub greater_power : (m n : ℕ) → (j : ℕ) × (m ≡ 2 ^ j) → (k : ℕ) × (n ≡ 2 ^ k) → (i : ℕ) × (max m n ≡ 2 ^ i)
greater_power m n p q = elim (nat_le m n) as (λ b. nat_le m n ≡ b → (i : ℕ) × (max m n ≡ 2 ^ i)) [
  | true ↦ λ e. (q.0, let le : m ≤ n = grind (arith, nat_tests) in omega (arith, le, q.1))
  | false ↦ λ e. (p.0, let lt : n < m = grind (arith, nat_tests) in omega (arith, lt, p.1))
] refl

-- the order of a next power of two, where that is at most 2^63
pub order_of_next : (n r : ℕ) → n ≤ 2 ^ 63 → next_power_of_two n ≡ 2 ^ r → (r ≤ 63) × (2 ^ r ≤ 2 ^ 63)
order_of_next n r bound is =
    let next = is_next_power_of_two n (omega (arith, bound)) in
    let least : 2 ^ r ≤ 2 ^ 63 = omega (arith, next.least 63 bound, is) in
    let lt : r < 64 = exponent r 64 (omega (arith, least)) in
    (omega (arith, lt), least)
