-- The atom of a memory type, by its properties, and the grain of its fit chunks.
use Rattle.std.proofs.Common.{◌≡◌, ℕ, ◌+◌, ◌-◌, ◌*◌, ◌%◌, ◌^◌, ◌<◌, Bool, true, false, cond, not, ◌==◌, IsTrue, max, refl, sym, ◌∙◌, ap, subst, arith, inl, inr}
use Rattle.std.proofs.lemmas.Bool.{cases_eq}
use Rattle.std.proofs.lemmas.Bool.Decides.{nat_tests}
use Rattle.std.proofs.lemmas.Nat.{and_mask, div-add-mod', pow_pos}
use Rattle.std.proofs.lemmas.Nat.Bits.{and_pow}
use Rattle.std.specs.Int.{bit_at, is_power_of_two}
use Rattle.std.specs.Int.Bits.{bit_and}
use Rattle.gpu_alloc_types.specs.Flags.{has_bit, has_all_bits}
use Rattle.gpu_alloc_base.specs.Sizes.{down}
use Rattle.gpu_alloc_base.proofs.PowersOfTwo.{bit_of_power, greater_power, power_of_bit}

-- a mask of one bit
pub one_bit-all : (bits k : ℕ) → has_all_bits bits (2 ^ k) ≡ has_bit bits (2 ^ k)
one_bit-all bits k =
    let masked = and_pow bits k in
    let some : 0 < 2 ^ k = pow_pos k in
    elim (cases_eq (bit_at bits k) 0) [
      | inl none ↦
          let nothing : bit_and bits (2 ^ k) ≡ 0 = masked ∙ ap (λ b. b * 2 ^ k) none ∙ omega arith in
          let all : (bit_and bits (2 ^ k) == 2 ^ k) ≡ false = grind (arith, nat_tests) in
          let any : (bit_and bits (2 ^ k) == 0) ≡ true = grind (arith, nat_tests) in
          all ∙ ap not (sym any)
      | inr is ↦
          let one : bit_at bits k ≡ 1 = omega (arith, is) in
          let whole : bit_and bits (2 ^ k) ≡ 2 ^ k = masked ∙ ap (λ b. b * 2 ^ k) one ∙ omega arith in
          let all : (bit_and bits (2 ^ k) == 2 ^ k) ≡ true = grind (arith, nat_tests) in
          let any : (bit_and bits (2 ^ k) == 0) ≡ false = grind (arith, nat_tests) in
          all ∙ ap not (sym any)
    ]

-- an atom is a power of two
pub atom_power : (size atom : ℕ) (b : Bool) → IsTrue (is_power_of_two size) → atom ≡ cond b size 1 → IsTrue (is_power_of_two atom)
atom_power size atom true power is = subst (λ n. IsTrue (is_power_of_two n)) (sym is) power
atom_power size atom false power is = subst (λ n. IsTrue (is_power_of_two n)) (sym is) (bit_of_power 0)

pub some_atom : (size atom : ℕ) (b : Bool) → IsTrue (is_power_of_two size) → atom ≡ cond b size 1 → 0 < atom
some_atom size atom b power is = let k = power_of_bit atom (atom_power size atom b power is) in omega (arith, k.1, pow_pos k.0)

-- and so is a grain
pub grain_power : (atom g : ℕ) → IsTrue (is_power_of_two atom) → g ≡ max atom 256 → IsTrue (is_power_of_two g)
grain_power atom g power is =
    let both = greater_power atom 256 (power_of_bit atom power) (8, refl) in
    subst (λ n. IsTrue (is_power_of_two n)) (sym (is ∙ both.1)) (bit_of_power both.0)

pub one_more : (n : ℕ) → IsTrue (is_power_of_two n) → n - 1 + 1 ≡ n
one_more n power = let k = power_of_bit n power in omega (arith, k.1, pow_pos k.0)

-- the greatest multiple of a power of two, by its mask
pub down_by_mask : (x n : ℕ) → IsTrue (is_power_of_two n) → x - bit_and x (n - 1) ≡ down x n
down_by_mask x n power =
    let k = power_of_bit n power in
    let low : bit_and x (n - 1) ≡ x % n = ap (λ m. bit_and x (m - 1)) k.1 ∙ and_mask x k.0 ∙ ap (λ m. x % m) (sym k.1) in
    omega (arith, low, div-add-mod' x n)
