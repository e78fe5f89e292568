-- The lowest bit that is set from a place on.
use Rattle.std.proofs.Common.{◌≡◌, inl, inr, ℕ, ◌-◌, ◌*◌, ◌%◌, ◌^◌, ◌<◌, ◌≤◌, min, bit_and, sym, ◌∙◌, ap, arith}
use Rattle.std.proofs.lemmas.Bool.{cases_lt}
use Rattle.std.proofs.lemmas.Nat.Bits.{bit_at-lt, bit_at-trailing_zeros, bit_at-zero, bit_at_and, bit_at_mask_below, bit_at_mask_inside, ones_shl}
use Rattle.std.proofs.lemmas.Nat.{and_le_l}
use Rattle.std.specs.Int.{bit_at, trailing_zeros, w64}
use Rattle.std.specs.Int.Count.{trailing_of_zero}

-- the bits from a place on
abbrev pub bits_from : ℕ → ℕ → ℕ
bits_from bits from = bit_and bits ((2 ^ 64 - 1) * 2 ^ from % 2 ^ 64)

module _ (bits from : ℕ) (few : bits < 2 ^ 64) (in_word : from < 64) where
  mask : bits_from bits from ≡ bit_and bits (2 ^ 64 - 2 ^ from)
  mask = ap (bit_and bits) (ones_shl 64 from (omega (arith, in_word)))

  above_stays : (i : ℕ) → from ≤ i → i < 64 → bit_at (bits_from bits from) i ≡ bit_at bits i
  above_stays i le less =
      let one = bit_at_mask_inside from 64 i le less in
      let small = bit_at-lt bits i in
      let is : bit_at (bit_and bits (2 ^ 64 - 2 ^ from)) i ≡ min (bit_at bits i) (bit_at (2 ^ 64 - 2 ^ from) i) = bit_at_and bits (2 ^ 64 - 2 ^ from) i in
      ap (λ n. bit_at n i) mask ∙ is ∙ omega (arith, one, small)

  below_goes : (i : ℕ) → i < from → bit_at (bits_from bits from) i ≡ 0
  below_goes i less =
      let zero' = bit_at_mask_below from 64 i less in
      ap (λ n. bit_at n i) mask ∙ bit_at_and bits (2 ^ 64 - 2 ^ from) i ∙ omega (arith, zero')

  masked_few : bits_from bits from < 2 ^ 64
  masked_few = let le = and_le_l bits ((2 ^ 64 - 1) * 2 ^ from % 2 ^ 64) in omega (arith, le, few)

  -- none from there on
  pub none_from : bits_from bits from ≡ 0 → (i : ℕ) → from ≤ i → i < 64 → bit_at bits i ≡ 0
  none_from none i le less = sym (above_stays i le less) ∙ ap (λ n. bit_at n i) none ∙ bit_at-zero i

  -- the lowest one
  module _ (some : 0 < bits_from bits from) where
    tells : (trailing_zeros w64 (bits_from bits from) < 64) × (bit_at (bits_from bits from) (trailing_zeros w64 (bits_from bits from)) ≡ 1)
        × ((i : ℕ) → i < trailing_zeros w64 (bits_from bits from) → bit_at (bits_from bits from) i ≡ 0)
    tells = bit_at-trailing_zeros w64 (bits_from bits from) some masked_few

    pub lowest_after : from ≤ trailing_zeros w64 (bits_from bits from)
    lowest_after = elim (cases_lt (trailing_zeros w64 (bits_from bits from)) from) [
      | inl less ↦ absurd (omega (arith, tells.1, below_goes (trailing_zeros w64 (bits_from bits from)) less))
      | inr le ↦ le
    ]

    pub lowest_in : trailing_zeros w64 (bits_from bits from) < 64
    lowest_in = tells.0

    pub lowest_set : bit_at bits (trailing_zeros w64 (bits_from bits from)) ≡ 1
    lowest_set = sym (above_stays (trailing_zeros w64 (bits_from bits from)) lowest_after lowest_in) ∙ tells.1

    pub lowest_least : (i : ℕ) → from ≤ i → i < trailing_zeros w64 (bits_from bits from) → bit_at bits i ≡ 0
    lowest_least i le less = sym (above_stays i le (omega (arith, less, lowest_in))) ∙ tells.2 i less

  pub lowest_none : bits_from bits from ≡ 0 → trailing_zeros w64 (bits_from bits from) ≡ 64
  lowest_none none = ap (trailing_zeros w64) none ∙ trailing_of_zero 64
