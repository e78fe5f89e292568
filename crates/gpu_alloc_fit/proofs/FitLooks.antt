-- How many free runs are looked at for a request.
use Rattle.std.proofs.Common.{◌≡◌, ◌≢◌, inl, inr, ℕ, ◌+◌, ◌-◌, ◌%◌, ◌<◌, ◌≤◌, Result, Ok, Err, sym, subst, arith}
use Rattle.std.specs.Prelude.{max}
use Rattle.std.proofs.lemmas.Bool.{cases_eq, cases_lt}
use Rattle.gpu_alloc_base.specs.Accounts.{account}
use Rattle.gpu_alloc_base.specs.FreeSpace.{IsMultipleOf}
use Rattle.gpu_alloc_base.specs.declared.free_list_block.Slot.{Slot}
use Rattle.gpu_alloc_base.specs.declared.heap.Heap.{Heap}
use Rattle.gpu_alloc_base.specs.declared.region.FreeListRegion.{FreeListRegion}
use Rattle.gpu_alloc_base.proofs.Multiples.{mod_from_multiple, multiple_from_mod}
use Rattle.gpu_alloc_fit.specs.Fit.{FitState}
use Rattle.gpu_alloc_fit.specs.FitRule.{Looks, fit_rule}
use Rattle.gpu_alloc_fit.specs.FitSound.{IsSoundFit}
use Rattle.gpu_alloc_runs.specs.Choice.{AreFewLooks, BeginsClass, IsRun}
use Rattle.gpu_alloc_runs.specs.Space.{FitSpace, IsFreeIn, LooksAtFew}
use Rattle.gpu_alloc_shared.specs.Shared.{Counted, CountsRefusing}
use Rattle.gpu_alloc_shared.specs.declared.store.Ask.{Ask}

-- where nothing is looked for, nothing is looked at
none_looked_at : (s : FitSpace) (size alignment looks : ℕ) → LooksAtFew s size alignment looks looks
none_looked_at s size alignment looks = (
  0,
  (
    omega arith,
    record {
      count = 0;
      misses = record {
        run = λ i. record { chunk = 0; start = 0; end = 0 };
        free = λ i less. absurd (omega (arith, less));
        holds = λ i less. absurd (omega (arith, less));
        differ = λ i j less. absurd (omega (arith, less));
      };
      bound = omega arith;
      sure = λ r run above. omega arith;
      one = λ begins starts. omega arith;
    },
  ),
)

-- The looks of a request and of a test for its refusal, by the rule.

module _ (f : FitState) (ask : Ask) (looks now : ℕ) where
  pub looks_so : {E : Type 0} (whole splits after : ℕ) (answer : Result Slot E) → Counted fit_rule f ask whole answer looks now splits after → Looks f ask looks now
  looks_so whole splits after (Ok slot) (inl took) = took
  looks_so whole splits after (Ok slot) (inr made) = made.1.0
  looks_so whole splits after (Err e) (inl unfit) = absurd (unfit.0 tt)
  looks_so whole splits after (Err e) (inr (inl none)) = none
  looks_so whole splits after (Err e) (inr (inr lost)) = lost

  pub refusing_so : (heap : Heap) (remaining : ℕ) → CountsRefusing fit_rule (account f heap remaining) ask looks now → LooksAtFew f.space ask.size (ask.align_mask + 1) looks now
  refusing_so heap remaining (inl looked) = looked.1.0
  refusing_so heap remaining (inr none) = subst (LooksAtFew f.space ask.size (ask.align_mask + 1) looks) (sym none.1) (none_looked_at f.space ask.size (ask.align_mask + 1) looks)

-- a free run starts with its chunk, or where a block ends
starts_at_atom : (f : FitState) → IsSoundFit f → (r : FreeListRegion) → IsRun (IsFreeIn f.space) r → r.start % f.atom ≢ 0 → ⊥
starts_at_atom f s r run other =
    let some : 0 < r.start = elim (cases_eq r.start 0) [ inl is ↦ absurd (other (mod_from_multiple f.atom r.start (0, omega (arith, is)))) | inr not ↦ omega (arith, not) ] in
    let first = run.free r.start (omega arith) run.nonempty in
    let before : IsFreeIn f.space r.chunk (r.start - 1) = record {
      held = first.held;
      is = first.is;
      inside = omega (arith, first.inside);
      unused = λ slot live same i. elim (cases_lt r.start (slot.offset + slot.size)) [
        | inl behind ↦ first.unused slot live same (record { from = omega (arith, i.from); to = behind })
        | inr ends ↦
            let atoms = s.slots slot live in
            let end : r.start ≡ slot.offset + slot.size = omega (arith, i.to, ends) in
            other (mod_from_multiple f.atom r.start (atoms.0.0 + atoms.1.0, omega (arith, end, atoms.0.1, atoms.1.1)))
      ];
    } in
    let longer = run.longest (r.start - 1) r.end (λ at from to. elim (cases_eq at (r.start - 1)) [
      | inl is ↦ subst (IsFreeIn f.space r.chunk) (sym is) before
      | inr not ↦ run.free at (omega (arith, from, not)) to
    ]) (omega arith) (omega arith) in
    omega (arith, longer.0, some)

pub runs_start_at_atoms : (f : FitState) → IsSoundFit f → (r : FreeListRegion) → IsRun (IsFreeIn f.space) r → IsMultipleOf f.atom r.start
runs_start_at_atoms f s r run = multiple_from_mod f.atom r.start (elim (cases_eq (r.start % f.atom) 0) [ inl is ↦ is | inr other ↦ absurd (starts_at_atom f s r run other) ])

-- So one run suffices where the size begins its class and the atom is the alignment.
pub one_looked_at : (f : FitState) (size mask old new : ℕ) → IsSoundFit f → LooksAtFew f.space size (max (mask + 1) f.atom) old new → mask + 1 ≤ f.atom → BeginsClass size → new ≤ old + 1
one_looked_at f size mask old new s looks low begins =
    let atom : max (mask + 1) f.atom ≡ f.atom = omega (arith, low) in
    let few = subst (λ n. AreFewLooks (IsFreeIn f.space) size n looks.0) atom looks.1.1 in
    omega (arith, looks.1.0, few.one begins (runs_start_at_atoms f s))
