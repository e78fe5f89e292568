-- That a size fits a chunk in whole atoms.
use Rattle.std.proofs.Common.{ℕ, ◌+◌, ◌-◌, ◌/◌, ◌<◌, ◌≤◌, sym, subst, arith}
use Rattle.std.proofs.lemmas.Nat.{div_below, pow_pos}
use Rattle.std.proofs.Math.Nat.{mul-le-mul_right}
use Rattle.gpu_alloc_base.specs.FreeSpace.{IsMultipleOf, IsPowerUpTo}
use Rattle.gpu_alloc_base.specs.Sizes.{up}

-- what is rounded up is not above a multiple that was not below
up_within : (size atom most : ℕ) → 0 < atom → IsMultipleOf atom most → size ≤ most → up size atom ≤ most
up_within size atom most positive (m, is) within =
    let few : (size + (atom - 1)) / atom ≤ m = omega (arith, div_below (size + (atom - 1)) atom (m + 1) positive (omega (arith, is, within, positive))) in
    omega (arith, is, mul-le-mul_right atom few)

-- what fits the largest chunk does so in whole atoms
pub up_fits : (atom most size : ℕ) → IsPowerUpTo 62 atom → IsMultipleOf atom most → size ≤ most → up size atom ≤ most
up_fits atom most size (k, (_, is)) whole within = up_within size atom most (subst (λ n. 0 < n) (sym is) (pow_pos k)) whole within
