-- Aligned ranges whose lengths are powers of two: of two that share a byte the shorter lies in the longer.
use Rattle.std.proofs.Common.{◌≡◌, ℕ, suc, ◌+◌, ◌*◌, ◌-◌, ◌^◌, ◌<◌, ◌≤◌, inl, inr, sym, ◌∙◌, ap, arith}
use Rattle.std.proofs.lemmas.Nat.{pow-add}
use Rattle.std.proofs.lemmas.Bool.{cases_lt}
use Rattle.std.proofs.Math.Nat.{mul_assoc, mul-le-mul_right, lt_of_mul-lt-mul_right, pow-succ'}
use Rattle.std.proofs.Math.Pow.{pow-lt}
use Rattle.gpu_alloc_base.specs.FreeSpace.{IsIn, IsMultipleOf, IsPowerUpTo}

-- Powers.

pub doubled : (k : ℕ) → 2 ^ (k + 1) ≡ 2 * 2 ^ k
doubled k = omega (arith, pow-add 2 k 1)

-- a longer power is a multiple of a shorter one
pub pow-from_shorter : (k j : ℕ) → k ≤ j → 2 ^ j ≡ 2 ^ (j - k) * 2 ^ k
pow-from_shorter k j h = let e : j ≡ (j - k) + k = omega arith in ap (λ i. 2 ^ i) e ∙ pow-add 2 (j - k) k

pub order-le : (k j : ℕ) → 2 ^ k ≤ 2 ^ j → k ≤ j
order-le k j h = elim (cases_lt j k) [ inl lt ↦ omega (arith, pow-lt {i = j} {j = k} lt) | inr le ↦ le ]

pub pow-le : (k j : ℕ) → k ≤ j → 2 ^ k ≤ 2 ^ j
pow-le k j h =
    elim (cases_lt k j) [
      | inl lt ↦ omega (arith, pow-lt {i = k} {j = j} lt)
      | inr le ↦ let e : k ≡ j = omega arith in omega (arith, ap (λ i. 2 ^ i) e)
    ]

-- Ranges.

-- an aligned range that starts in a longer one ends in it
pub ends_in : (a k b j : ℕ) → IsMultipleOf (2 ^ k) a → IsMultipleOf (2 ^ j) b → k ≤ j → a < b + 2 ^ j → a + 2 ^ k ≤ b + 2 ^ j
ends_in a k b j (m, ea) (n, eb) h below =
    let q : ℕ = 2 ^ (j - k) in
    let p : ℕ = 2 ^ k in
    let ej : 2 ^ j ≡ q * p = pow-from_shorter k j h in
    let eb' : b ≡ n * q * p = eb ∙ ap (λ x. n * x) ej ∙ sym (mul_assoc n q p) in
    let lt : m * p < (n * q + q) * p = omega (arith, ea, eb', ej) in
    let less : m < n * q + q = lt_of_mul-lt-mul_right p lt in
    let le : (m + 1) * p ≤ (n * q + q) * p = mul-le-mul_right p (omega arith) in
    omega (arith, ea, eb', ej, le)

-- one that shares a byte with a longer one lies in it
pub lies_in : (a k b j at : ℕ) → IsMultipleOf (2 ^ k) a → IsMultipleOf (2 ^ j) b → k ≤ j → IsIn a (2 ^ k) at → IsIn b (2 ^ j) at → (b ≤ a) × (a + 2 ^ k ≤ b + 2 ^ j)
lies_in a k b j at (m, ea) (n, eb) h in_a in_b =
    let q : ℕ = 2 ^ (j - k) in
    let p : ℕ = 2 ^ k in
    let ej : 2 ^ j ≡ q * p = pow-from_shorter k j h in
    let eb' : b ≡ n * q * p = eb ∙ ap (λ x. n * x) ej ∙ sym (mul_assoc n q p) in
    let lt : n * q * p < (m + 1) * p = omega (arith, ea, eb', in_a.to, in_b.from) in
    let less : n * q < m + 1 = lt_of_mul-lt-mul_right p lt in
    let le : n * q * p ≤ m * p = mul-le-mul_right p (omega arith) in
    (omega (arith, ea, eb', le), ends_in a k b j (m, ea) (n, eb) h (omega (arith, in_a.from, in_b.to)))

-- one that lies in another and is as long is that one
pub same-from_length : (a b k j : ℕ) → b ≤ a → a + 2 ^ k ≤ b + 2 ^ j → j ≤ k → (b ≡ a) × (j ≡ k)
same-from_length a b k j from to as_long =
    let le = pow-le j k as_long in
    let e : k ≤ j = order-le k j (omega arith) in
    (omega arith, omega arith)

-- each half of an aligned range is aligned
pub left-aligned : (a k : ℕ) → IsMultipleOf (2 ^ suc k) a → IsMultipleOf (2 ^ k) a
left-aligned a k (m, e) = (m * 2, e ∙ ap (λ x. m * x) (pow-succ' 2 k) ∙ sym (mul_assoc m 2 (2 ^ k)))

pub right-aligned : (a k : ℕ) → IsMultipleOf (2 ^ suc k) a → IsMultipleOf (2 ^ k) (a + 2 ^ k)
right-aligned a k (m, e) =
    let twice : 2 ^ suc k ≡ 2 * 2 ^ k = pow-succ' 2 k in
    let times : m * 2 ^ suc k ≡ m * (2 * 2 ^ k) = ap (λ x. m * x) twice in
    (m * 2 + 1, omega (arith, e, times))

-- powers of two by a bound on them
pub power_up_to : (limit n : ℕ) → (k : ℕ) × (n ≡ 2 ^ k) → n < 2 ^ (limit + 1) → IsPowerUpTo limit n
power_up_to limit n power lt = (power.0, (omega (arith, below power.0 (limit + 1) (omega (arith, power.1, lt))), power.1))
  where
    below : (j k : ℕ) → 2 ^ j < 2 ^ k → j < k
    below j k less = elim (cases_lt j k) [ inl lt ↦ lt | inr ge ↦ absurd (let le = pow-le k j ge in omega (arith, le, less)) ]
