-- A mask made bit by bit has exactly the bits that were set.
use Rattle.std.proofs.Common.{ℕ, ◌*◌, ◌^◌, ◌%◌, ◌<◌, ◌≤◌, ◌≡◌, ◌⊎◌, sym, refl, List, [], ◌∷◌, ◌++◌, arith, inl, inr}
use Rattle.std.proofs.lemmas.Bool.{cases_eq}
use Rattle.std.proofs.lemmas.List.Elements.{Contains-append_left, Contains-append_right, Contains-append_cases}
use Rattle.std.proofs.lemmas.Nat.{one_shl}
use Rattle.std.proofs.lemmas.Nat.Bits.{bit_at_or, bit_at-pow_same, bit_at-pow_other, bit_at-zero}
use Rattle.std.specs.Int.{bit_at}
use Rattle.std.specs.List.{Contains}
use Rattle.std.specs.Prelude.{bit_or}
use Rattle.gpu_alloc_usage.specs.Masks.{with_bits}
use Rattle.gpu_alloc_usage.specs.Ranking.{IsMaskOf}
use Rattle.gpu_alloc_usage.proofs.Ranking.Rising.{one-at, none-at}

-- One bit more.

set_before : (mask bit t : ℕ) → bit_at (bit_or mask (2 ^ bit)) t ≡ 1 → (bit_at mask t ≡ 1) ⊎ (bit ≡ t)
set_before mask bit t e =
    elim (cases_eq t bit) [
      | inl same ↦ inr (sym same)
      | inr other ↦ let either = bit_at_or mask (2 ^ bit) t in let none = bit_at-pow_other bit t other in inl (omega arith)
    ]

still_set : (mask bit t : ℕ) → bit_at mask t ≡ 1 → bit_at (bit_or mask (2 ^ bit)) t ≡ 1
still_set mask bit t e =
    let either = bit_at_or mask (2 ^ bit) t in
    elim (cases_eq t bit) [
      | inl same ↦ let here : bit_at (2 ^ bit) t ≡ 1 = rw same (bit_at-pow_same bit) in omega arith
      | inr other ↦ let none = bit_at-pow_other bit t other in omega arith
    ]

at_most_one : (mask t : ℕ) → bit_at mask t ≤ 1
at_most_one mask t = omega arith

now_set : (mask bit : ℕ) → bit_at (bit_or mask (2 ^ bit)) bit ≡ 1
now_set mask bit = let small = at_most_one mask bit in let either = bit_at_or mask (2 ^ bit) bit in let here = bit_at-pow_same bit in omega arith

-- All of them.

set_is_there : (mask : ℕ) (bits : List ℕ) (t : ℕ) → bit_at (with_bits mask bits) t ≡ 1 → (bit_at mask t ≡ 1) ⊎ Contains bits t
unfolding with_bits
set_is_there mask [] t e = inl e
set_is_there mask (bit ∷ bits) t e =
    elim (set_is_there (bit_or mask (2 ^ bit)) bits t e) [
      | inl before ↦ elim (set_before mask bit t before) [
        | inl old ↦ inl old
        | inr same ↦ inr (Contains-append_left (bit ∷ []) bits t (0, omega arith, same))
      ]
      | inr later ↦ inr (Contains-append_right (bit ∷ []) bits t later)
    ]

all_kept : (mask : ℕ) (bits : List ℕ) (t : ℕ) → bit_at mask t ≡ 1 → bit_at (with_bits mask bits) t ≡ 1
unfolding with_bits
all_kept mask [] t e = e
all_kept mask (bit ∷ bits) t e = all_kept (bit_or mask (2 ^ bit)) bits t (still_set mask bit t e)

there_is_set : (mask : ℕ) (bits : List ℕ) (t : ℕ) → Contains bits t → bit_at (with_bits mask bits) t ≡ 1
unfolding with_bits
there_is_set mask [] t c = absurd (none-at t c)
there_is_set mask (bit ∷ bits) t c =
    elim (Contains-append_cases (bit ∷ []) bits t c) [
      | inl now ↦ let same = one-at bit t now.0 now.1 now.2 in all_kept (bit_or mask (2 ^ bit)) bits t (rw (← same) (now_set mask bit))
      | inr later ↦ there_is_set (bit_or mask (2 ^ bit)) bits t later
    ]

none_at_first : (bits : List ℕ) (t : ℕ) → (bit_at 0 t ≡ 1) ⊎ Contains bits t → Contains bits t
none_at_first bits t (inl e) = let zero = bit_at-zero t in let none : ⊥ = omega arith in absurd none
none_at_first bits t (inr c) = c

pub with_bits_IsMaskOf : (bits : List ℕ) → IsMaskOf (with_bits 0 bits) bits
with_bits_IsMaskOf bits t = (λ e. none_at_first bits t (set_is_there 0 bits t e), there_is_set 0 bits t)

-- a bit after the others
pub with_bits-more : (mask : ℕ) (bits : List ℕ) (bit : ℕ) → with_bits mask (bits ++ bit ∷ []) ≡ bit_or (with_bits mask bits) (2 ^ bit)
unfolding with_bits
with_bits-more mask [] bit = refl
with_bits-more mask (first ∷ bits) bit = with_bits-more (bit_or mask (2 ^ first)) bits bit

-- one shifted by less than 32 stays within 32 bits
pub shifted_one : (bit : ℕ) → bit < 32 → 1 * 2 ^ bit % 4294967296 ≡ 2 ^ bit
shifted_one bit h = one_shl bit 32 h
