-- Masks, as their bits are set one after another.
use Rattle.std.specs.Prelude.{ℕ, ◌^◌, List, [], ◌∷◌, bit_or}

-- a mask with the bits of these numbers set too
unfoldable pub with_bits : ℕ → List ℕ → ℕ
with_bits mask [] = mask
with_bits mask (bit ∷ bits) = with_bits (bit_or mask (2 ^ bit)) bits
