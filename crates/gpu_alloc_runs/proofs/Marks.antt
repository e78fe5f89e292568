-- At first no class has a list.
use Rattle.std.proofs.Common.{◌≡◌, inl, inr, ℕ, ◌/◌, ◌%◌, List, length, ◌∙◌, ap, arith}
use Rattle.std.specs.Prelude.{replicate, slice_index_or}
use Rattle.std.specs.Int.{bit_at}
use Rattle.std.proofs.lemmas.Bool.{cases_lt}
use Rattle.std.proofs.lemmas.List.{get_or-replicate, get_or_past, length-replicate}
use Rattle.std.proofs.lemmas.Nat.{div_below}
use Rattle.std.proofs.lemmas.Nat.Bits.{bit_at-zero}
use Rattle.gpu_alloc_runs.specs.Classes.{AreMarked, first_in}
use Rattle.gpu_alloc_runs.specs.declared.classes.Classes.{Classes}
use Rattle.gpu_alloc_runs.specs.declared.tile.TheConstants.{NONE}

module _ (classes : Classes) (firsts : classes.first ≡ replicate 464 NONE) (words : classes.filled ≡ replicate 8 0) where
  pub empty_first : (class : ℕ) → first_in classes class ≡ NONE
  empty_first class = elim (cases_lt class 464) [
    | inl within ↦ ap (λ (xs : List ℕ). slice_index_or xs class NONE) firsts ∙ get_or-replicate 464 class NONE NONE within
    | inr beyond ↦ get_or_past classes.first class NONE (omega (arith, ap length firsts, length-replicate {A = ℕ} 464 NONE, beyond))
  ]

  pub empty_marked : AreMarked classes
  empty_marked = record {
    firsts = ap length firsts ∙ length-replicate {A = ℕ} 464 NONE;
    words = ap length words ∙ length-replicate {A = ℕ} 8 0;
    set = λ class within some. absurd (some (empty_first class));
    clear = λ class within one. (
        let word = ap (λ (xs : List ℕ). slice_index_or xs (class / 64) 0) words ∙ get_or-replicate 8 (class / 64) 0 0 (div_below class 64 8 (omega arith) (omega (arith, within))) in
        let zero' : bit_at (slice_index_or classes.filled (class / 64) 0) (class % 64) ≡ 0 = ap (λ n. bit_at n (class % 64)) word ∙ bit_at-zero (class % 64) in
        absurd (omega (arith, one, zero')));
  }
