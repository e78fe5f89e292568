use Rattle.std.proofs.Common.{◌≡◌, ℕ, ◌+◌, ◌*◌, ◌/◌, ◌%◌, ◌^◌, ◌<◌, sym, ◌∙◌, ap, arith}
use Rattle.std.proofs.Math.Nat.{mul-div_cancel}
use Rattle.std.proofs.lemmas.Nat.{pow_pos}
use Rattle.gpu_alloc_base.proofs.AlignedPowers.{doubled}
use Rattle.gpu_alloc_pairs.proofs.pairs.side_of.Goals as goal

-- a multiple of p by a quotient and the rest by 2
even : (offset p q : ℕ) → 0 < p → offset ≡ q * p → offset / p % 2 ≡ 0 → offset ≡ q / 2 * (2 * p)
even offset p q some is none =
    let same : offset / p ≡ q = ap (λ n. n / p) is ∙ mul-div_cancel q some in
    let twice : q ≡ 2 * (q / 2) = let rest : q % 2 ≡ 0 = sym (ap (λ n. n % 2) same) ∙ none in omega (arith, rest) in
    omega (arith, is, ap (λ n. n * p) twice)

odd : (offset p q : ℕ) → 0 < p → offset ≡ q * p → (offset / p % 2 ≡ 0 → ⊥) → offset ≡ q / 2 * (2 * p) + p
odd offset p q some is other =
    let same : offset / p ≡ q = ap (λ n. n / p) is ∙ mul-div_cancel q some in
    let one : q ≡ 2 * (q / 2) + 1 = let rest : (q % 2 ≡ 0 → ⊥) = λ e. other (ap (λ n. n % 2) same ∙ e) in omega (arith, rest) in
    omega (arith, is, ap (λ n. n * p) one)

pub returns-then-offset-order-eq0 : goal.returns-then-offset-order-eq0
returns-then-offset-order-eq0 c =
    let q : ℕ = c.requires.half.0 in
    (q / 2, even c.args.offset (2 ^ c.args.order) q (pow_pos c.args.order) c.requires.half.1 c.if-offset-order-eq0.true ∙ ap (λ n. q / 2 * n) (sym (doubled c.args.order)))

pub returns-else-offset-order-eq0 : goal.returns-else-offset-order-eq0
returns-else-offset-order-eq0 c =
    let q : ℕ = c.requires.half.0 in
    (q / 2, odd c.args.offset (2 ^ c.args.order) q (pow_pos c.args.order) c.requires.half.1 c.if-offset-order-eq0.false ∙ ap (λ n. q / 2 * n + 2 ^ c.args.order) (sym (doubled c.args.order)))
