-- A share in thousandths, digit by digit.
use Rattle.std.proofs.Common.{◌≡◌, ℕ, ◌+◌, ◌*◌, ◌/◌, ◌%◌, ◌<◌, ◌≤◌, sym, ◌∙◌, ap, cond, arith}
use Rattle.std.proofs.lemmas.Nat.{div-mul-add, div_below}
use Rattle.gpu_alloc_base.proofs.Maps.{eq-false}
use Rattle.gpu_report.specs.Free.{thousandths}

module _ (part whole : ℕ) (some : 0 < whole) where
  abbrev left : ℕ
  left = 10 * part % whole

  abbrev rest : ℕ
  rest = 10 * left % whole

  pub digits : 100 * (10 * part / whole) + 10 * (10 * left / whole) + 10 * rest / whole ≡ 1000 * part / whole
  digits =
      let a = 10 * part / whole in
      let b = 10 * left / whole in
      let d = 10 * rest / whole in
      let last = 10 * rest % whole in
      let below : last < whole = omega arith in
      let is : 1000 * part ≡ (100 * a + 10 * b + d) * whole + last = omega arith in
      sym (ap (λ n. n / whole) is ∙ div-mul-add (100 * a + 10 * b + d) whole last below)

  pub at-most : part ≤ whole → 1000 * part / whole < 1001
  at-most le = div_below (1000 * part) whole 1001 some (omega arith)

-- what the digits say is the share
pub share_is : (part whole : ℕ) → 0 < whole → 1000 * part / whole ≡ thousandths part whole
share_is part whole some = ap (λ b. cond b 0 (1000 * part / whole)) (sym (eq-false whole 0 (λ none. omega arith)))
