-- A slab has at least as many values as a list has keys of them, each once.
use Rattle.std.proofs.Common.{◌≡◌, ◌≢◌, inl, inr, ℕ, ◌+◌, ◌<◌, ◌≤◌, List, [], ◌∷◌, length, Option, None, IsSome, is_some, true, false, cond, refl, sym, ap, subst, arith, get_or-set_other}
use Rattle.std.specs.Prelude.{count_by, slice_index_or}
use Rattle.std.proofs.Math.ListN.{set}
use Rattle.std.proofs.lemmas.Bool.{cases_lt}
use Rattle.std.proofs.lemmas.List.{get_or_past}
use Rattle.std.proofs.lemmas.List.Sums.{sum_by-set}
use Rattle.slab.specs.Slab.{ContainsKey, Slab, slab_len}
use Rattle.gpu_alloc_runs.specs.Classes.{IsIn, IsOnce}

module _ {T : Type 0} where
  -- a value counts 1
  weight : (o : Option T) → IsSome o → cond {A = ℕ} (is_some o) 1 0 ≡ 1
  weight o some = ap (λ b. cond b 1 0) some

  within : (slots : List (Option T)) (k : ℕ) → IsSome (slice_index_or slots k None) → k < length slots
  within slots k some = elim (cases_lt k (length slots)) [
    | inl less ↦ less
    | inr past ↦ absurd (let e : false ≡ true = subst (λ (o : Option T). IsSome o) (get_or_past slots k None past) some in cc)
  ]

  one_fewer : (slots : List (Option T)) (k : ℕ) → IsSome (slice_index_or slots k None) → count_by is_some (set slots k None) + 1 ≡ count_by is_some slots
  one_fewer slots k some =
      let e = sum_by-set (λ (o : Option T). cond (is_some o) 1 0) slots k None None (within slots k some) in
      let one = weight (slice_index_or slots k None) some in
      omega (arith, e, one)

  few_in : (keys : List ℕ) (slots : List (Option T)) → IsOnce keys → ((k : ℕ) → IsIn keys k → IsSome (slice_index_or slots k None)) → length keys ≤ count_by is_some slots
  few_in [] slots once there = omega arith
  few_in (k ∷ rest) slots once there =
      let rec = few_in rest (set slots k None) once.1 (λ j is. let ne : j ≢ k = (λ e. once.0 (subst (IsIn rest) e is)) in subst IsSome (sym (get_or-set_other slots k j None None ne)) (there j (inr is))) in
      let one = one_fewer slots k (there k (inl refl)) in
      omega (arith, rec, one)

pub few_keys : {T : Type 0} (slab : Slab T) (keys : List ℕ) → IsOnce keys → ((k : ℕ) → IsIn keys k → ContainsKey slab k) → length keys ≤ slab_len slab
few_keys slab keys once there = few_in keys slab.slots once there
