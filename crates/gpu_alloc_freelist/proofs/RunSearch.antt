-- The runs are searched by halves for those that start before a block.
use Rattle.std.proofs.Common.{◌≡◌, inl, inr, ℕ, ◌+◌, ◌-◌, ◌*◌, ◌^◌, ◌<◌, ◌≤◌, List, length, get_or, sym, ◌∙◌, ap, subst, arith, rules, true, false, Bool}
use Rattle.std.specs.Prelude.{◌==◌}
use Rattle.std.specs.Ordering.{ordering_index}
use Rattle.std.specs.declared.cmp.Ordering.{Ordering}
use Rattle.std.proofs.Math.Nat.{mul-le-mul_left}
use Rattle.std.proofs.lemmas.Bool.{cases_eq}
use Rattle.std.proofs.lemmas.List.{get_or_default}
use Rattle.gpu_alloc_base.specs.FreeRuns.{IsBefore}
use Rattle.gpu_alloc_base.specs.Slots.{region_cmp, region_of}
use Rattle.gpu_alloc_base.specs.declared.free_list_block.Slot.{Slot}
use Rattle.gpu_alloc_base.specs.declared.region.FreeListRegion.{FreeListRegion}
use Rattle.gpu_alloc_base.proofs.AlignedPowers.{doubled}
use Rattle.gpu_alloc_freelist.specs.Runs.{AreFewComparisons, AreSorted, StartsBefore}

-- what comes before one that starts before the block starts before it too
starts_sooner : (r s x : FreeListRegion) → r.start < r.end → IsBefore r s → StartsBefore s x → StartsBefore r x
starts_sooner r s x some (inl a) (inl b) = inl (omega (arith, a, b))
starts_sooner r s x some (inl a) (inr b) = inl (omega (arith, a, b.0))
starts_sooner r s x some (inr a) (inl b) = inl (omega (arith, a.0, b))
starts_sooner r s x some (inr a) (inr b) = inr (a.0 ∙ b.0, omega (arith, a.1, b.1, some))

module _ (regions : List FreeListRegion) (sorted : AreSorted regions) (x : FreeListRegion) where
  -- all up to one that starts before the block start before it
  pub all_before : (m k : ℕ) (d : FreeListRegion) → m < length regions → StartsBefore (get_or regions m d) x → k ≤ m → StartsBefore (get_or regions k d) x
  all_before m k d within starts le = elim (cases_eq k m) [
    | inl here ↦ rw here starts
    | inr other ↦ starts_sooner (get_or regions k d) (get_or regions m d) x (sorted.nonempty k d (omega arith)) (sorted.rising k m d (omega (arith, other)) within) starts
  ]

  -- and none from one on that does not
  pub none_before : (m k : ℕ) (d : FreeListRegion) → m < length regions → (StartsBefore (get_or regions m d) x → ⊥) → m ≤ k → k < length regions → StartsBefore (get_or regions k d) x → ⊥
  none_before m k d within not le lt starts = not (all_before k m d lt starts le)

-- The window has a half left at most after each comparison.

abbrev pub IsHalved : ℕ → ℕ → ℕ → ℕ → Type 0
IsHalved n old now window = 2 ^ (now - old) * window ≤ n

risen : (old now next : ℕ) → old ≤ now → next ≡ now + 1 → 2 ^ (next - old) ≡ 2 * 2 ^ (now - old)
risen old now next le is =
    let by : next - old ≡ (now - old) + 1 = omega arith in
    ap (λ n. 2 ^ n) by ∙ doubled (now - old)

pub halved_more : (n old now next window rest : ℕ) → old ≤ now → next ≡ now + 1 → IsHalved n old now window → 2 * rest ≤ window → IsHalved n old next rest
halved_more n old now next window rest le is halved half =
    let e = risen old now next le is in
    let m = mul-le-mul_left (2 ^ (now - old)) half in
    rw e (omega (arith, m, halved))

pub few_more : (n old now next window : ℕ) → old ≤ now → next ≡ now + 1 → IsHalved n old now window → 0 < window → AreFewComparisons n old next
few_more n old now next window le is halved some =
    let e = risen old now next le is in
    let one : 1 ≤ window = omega arith in
    let m = mul-le-mul_left (2 ^ (now - old)) one in
    rw e (omega (arith, m, halved))

-- What a comparison says.

less_starts : (r : FreeListRegion) (slot : Slot) (order : Ordering) → order ≡ region_cmp r slot → (ordering_index order == 0) ≡ true → StartsBefore r (region_of slot)
less_starts r slot order is less = search rules

not_less : (r : FreeListRegion) (slot : Slot) (order : Ordering) → order ≡ region_cmp r slot → (ordering_index order == 0) ≡ false → StartsBefore r (region_of slot) → ⊥
not_less r slot order is more = search rules

-- `equal` tells whether the answer at a place was `Less`
module _ (regions : List FreeListRegion) (i : ℕ) (e : FreeListRegion) (within : i < length regions) (slot : Slot) (order : Ordering) (is : order ≡ region_cmp (get_or regions i e) slot)
    (equal : Bool) (tells : equal ≡ (ordering_index order == 0)) where
  pub less_at : (d : FreeListRegion) → equal ≡ true → StartsBefore (get_or regions i d) (region_of slot)
  less_at d less = subst (λ r. StartsBefore r (region_of slot)) (get_or_default regions i e d within) (less_starts (get_or regions i e) slot order is (sym tells ∙ less))

  pub not_less_at : (d : FreeListRegion) → equal ≡ false → StartsBefore (get_or regions i d) (region_of slot) → ⊥
  not_less_at d more = subst (λ r. StartsBefore r (region_of slot) → ⊥) (get_or_default regions i e d within) (not_less (get_or regions i e) slot order is (sym tells ∙ more))
