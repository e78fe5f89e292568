-- A mask of memory types, as their bits are set one after another.
use Rattle.std.proofs.Common.{ℕ, ◌+◌, ◌*◌, ◌^◌, ◌%◌, ◌<◌, ◌≡◌, ◌↔◌, inl, inr, sym, ◌∙◌, ap, subst, length, get_or, arith, bit_or}
use Rattle.std.proofs.lemmas.Bool.{cases_eq}
use Rattle.std.proofs.lemmas.Nat.{one_shl}
use Rattle.std.proofs.lemmas.Nat.Bits.{bit_at_or, bit_at-pow_same, bit_at-pow_other, bit_at-lt}
use Rattle.std.proofs.lemmas.Option.{slice_get-get_or}
use Rattle.std.specs.Int.{bit_at}
use Rattle.gpu_alloc_types.specs.Flags.{property_bits}
use Rattle.gpu_alloc_types.specs.Properties.{Properties, bits_of, props_at}
use Rattle.gpu_alloc_types.specs.declared.types.MemoryType.{MemoryType}

-- the properties of a type that is there
pub props_of_known : (p : Properties) (t : ℕ) (d : MemoryType) → t < length p.memory_types → props_at p t ≡ property_bits (get_or p.memory_types t d).props
props_of_known p t d known = ap bits_of (slice_get-get_or p.memory_types t d known)

-- one shifted by less than 32 stays within 32 bits
pub shifted_one : (bit : ℕ) → bit < 32 → 1 * 2 ^ bit % 4294967296 ≡ 2 ^ bit
shifted_one bit h = one_shl bit 32 h

-- The mask has the bits of exactly those below a number for which something holds.
module _ (P : ℕ → Type 0) (mask next : ℕ) (exact : (t : ℕ) → (bit_at mask t ≡ 1) ↔ (t < next) × P t) where
  -- the next one, where it does not hold for it
  pub passed : (P next → ⊥) → (t : ℕ) → (bit_at mask t ≡ 1) ↔ (t < next + 1) × P t
  passed none t = (
    λ set. let is = (exact t).0 set in (omega arith, is.1),
    λ is. elim (cases_eq t next) [
      | inl same ↦ absurd (none (subst P same is.1))
      | inr other ↦ (exact t).1 (omega arith, is.1)
    ],
  )

  -- and where it does, with the bit set
  pub added : P next → (t : ℕ) → (bit_at (bit_or mask (2 ^ next)) t ≡ 1) ↔ (t < next + 1) × P t
  added holds t =
      let either = bit_at_or mask (2 ^ next) t in
      let small = bit_at-lt mask t in
      elim (cases_eq t next) [
        | inl same ↦
            let here : bit_at (2 ^ next) t ≡ 1 = ap (bit_at (2 ^ next)) same ∙ bit_at-pow_same next in
            (λ _. (omega arith, subst P (sym same) holds), λ _. omega (arith, either, here, small))
        | inr other ↦
            let none : bit_at (2 ^ next) t ≡ 0 = bit_at-pow_other next t other in
            let same : bit_at (bit_or mask (2 ^ next)) t ≡ bit_at mask t = omega (arith, either, none) in
            (λ set. let is = (exact t).0 (sym same ∙ set) in (omega arith, is.1), λ is. same ∙ (exact t).1 (omega arith, is.1))
      ]
