-- Multiples of a number: what is rounded down, powers of two, sums, products and the lesser of two.
use Rattle.std.proofs.Common.{◌≡◌, inl, inr, ℕ, ◌+◌, ◌-◌, ◌*◌, ◌/◌, ◌%◌, ◌^◌, ◌<◌, ◌≤◌, refl, sym, ◌∙◌, ap, subst, arith}
use Rattle.std.specs.Prelude.{min}
use Rattle.std.proofs.lemmas.Bool.{cases_lt}
use Rattle.std.proofs.lemmas.Nat.{div-add-mod'}
use Rattle.std.proofs.Math.Nat.{div-mul-le_self, le-div_iff_mul-le, mul-le-mul_right, mul_assoc, mul-mod_left, mul-sub}
use Rattle.gpu_alloc_base.specs.FreeSpace.{IsMultipleOf, IsPowerOfTwo}
use Rattle.gpu_alloc_base.specs.Sizes.{down}
use Rattle.gpu_alloc_base.proofs.AlignedPowers.{order-le, pow-from_shorter}

-- What is rounded down.

pub down_below : (x a : ℕ) → down x a ≤ x
down_below x a = div-mul-le_self x a

-- a multiple that is not above a number is not above the next multiple below it
pub multiple_below : (x a y : ℕ) → 0 < a → IsMultipleOf a y → y ≤ x → y ≤ down x a
multiple_below x a y positive multiple le =
    let fits : multiple.0 ≤ x / a = (le-div_iff_mul-le positive).1 (omega (arith, multiple.1, le)) in
    omega (arith, multiple.1, mul-le-mul_right a fits)

-- Multiples and remainders.

pub multiple_from_mod : (n x : ℕ) → x % n ≡ 0 → IsMultipleOf n x
multiple_from_mod n x none = (x / n, omega (arith, div-add-mod' x n, none))

pub mod_from_multiple : (n x : ℕ) → IsMultipleOf n x → x % n ≡ 0
mod_from_multiple n x (m, is) = ap (λ y. y % n) is ∙ mul-mod_left m n

pub multiple_down : (x n : ℕ) → IsMultipleOf n (down x n)
multiple_down x n = (x / n, refl)

-- a multiple of a power of two is one of each lower power
pub multiple_of_lower : (n m x : ℕ) → IsPowerOfTwo n → IsPowerOfTwo m → n ≤ m → IsMultipleOf m x → IsMultipleOf n x
multiple_of_lower n m x (j, n_is) (k, m_is) le (q, is) =
    let le' : j ≤ k = order-le j k (omega (arith, n_is, m_is, le)) in
    let e = pow-from_shorter j k le' in
    (q * 2 ^ (k - j), is ∙ ap (λ z. q * z) (m_is ∙ e) ∙ sym (mul_assoc q (2 ^ (k - j)) (2 ^ j)) ∙ ap (λ z. q * 2 ^ (k - j) * z) (sym n_is))

-- where x and x + y are multiples, y is one
pub multiple_rest : (n x y : ℕ) → IsMultipleOf n x → IsMultipleOf n (x + y) → IsMultipleOf n y
multiple_rest n x y (m, x_is) (k, all_is) = (k - m, omega (arith, mul-sub n k m))

pub multiple_times : (n x k : ℕ) → IsMultipleOf n x → IsMultipleOf n (k * x)
multiple_times n x k (m, is) = (k * m, ap (λ y. k * y) is ∙ sym (mul_assoc k m n))

pub multiple_min : (n x y : ℕ) → IsMultipleOf n x → IsMultipleOf n y → IsMultipleOf n (min x y)
multiple_min n x y of_x of_y = elim (cases_lt x y) [
  | inl lt ↦ let e : min x y ≡ x = omega arith in subst (IsMultipleOf n) (sym e) of_x
  | inr le ↦ let e : min x y ≡ y = omega arith in subst (IsMultipleOf n) (sym e) of_y
]
