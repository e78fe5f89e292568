-- Ledgers: the counted sizes of held objects, as one is added or taken off, and how large their sum may be.
use Rattle.std.proofs.Common.{◌≡◌, ℕ, ◌+◌, ◌*◌, ◌^◌, ◌<◌, ◌≤◌, Bool, true, false, cond, ◌==◌, List, [], ◌∷◌, length, Some, None, refl, sym, subst, arith, Less, Equal, Greater}
use Rattle.std.proofs.lemmas.List.Sums.{sum_by-cons}
use Rattle.std.specs.List.{sum_by}
use Rattle.std.specs.Cmp.{nat_cmp_total}
use Rattle.std.specs.Ordering.{nat_cmp, is_eq}
use Rattle.std.specs.FinMap as finite
use Rattle.std.specs.FinMap.Entries.{by_order}
use Rattle.gpu_alloc_types.specs.Properties.{Properties, heap_at}
use Rattle.gpu_alloc_block.specs.State.{HeldObject, share}
use Rattle.gpu_alloc.specs.Budget.{asked_share, is_import}
use Rattle.gpu_alloc.specs.Inside.{AreSmall}
use Rattle.gpu_alloc_base.proofs.Maps.{gone}
use Rattle.gpu_alloc_base.proofs.Sums.{back, not_found}

abbrev pub Held : Type 0
Held = finite.FinMap nat_cmp HeldObject

abbrev pub Entries : Type 0
Entries = List (ℕ × HeldObject)

small-put : (k : ℕ) (v : HeldObject) (es : Entries) → finite.find nat_cmp k es ≡ None → v.counted < 2 ^ 64 → AreSmall es → AreSmall (finite.put nat_cmp k v es)
small-put k v [] none small all = (small, tt)
small-put k v (e ∷ es) none small all = elim (nat_cmp k e.0) as (λ r. cond (is_eq r) (Some e.1) (finite.find nat_cmp k es) ≡ None
    → AreSmall (by_order r ((k, v) ∷ e ∷ es) ((e.0, v) ∷ es) (e ∷ finite.put nat_cmp k v es))) [
      | Less ↦ λ _. (small, all)
      | Equal ↦ λ some. absurd (cc)
      | Greater ↦ λ rest. (all.0, small-put k v es rest small all.1)
    ] none

small-unput : (k : ℕ) (v : HeldObject) (es : Entries) → finite.find nat_cmp k es ≡ None → AreSmall (finite.put nat_cmp k v es) → AreSmall es
small-unput k v [] none all = tt
small-unput k v (e ∷ es) none all = elim (nat_cmp k e.0) as (λ r. cond (is_eq r) (Some e.1) (finite.find nat_cmp k es) ≡ None
    → AreSmall (by_order r ((k, v) ∷ e ∷ es) ((e.0, v) ∷ es) (e ∷ finite.put nat_cmp k v es)) → AreSmall (e ∷ es)) [
      | Less ↦ λ _ put. put.1
      | Equal ↦ λ some _. absurd (cc)
      | Greater ↦ λ rest put. (put.0, small-unput k v es rest put.1)
    ] none all

pub small-insert : (m : Held) (k : ℕ) (v : HeldObject) → finite.get m k ≡ None → v.counted < 2 ^ 64 → AreSmall (finite.entries m) → AreSmall (finite.entries (finite.insert m k v))
small-insert m k v none small all = subst AreSmall (sym (finite.entries-insert nat_cmp_total m k v)) (small-put k v (finite.entries m) (not_found m k none) small all)

pub small-remove : (m : Held) (k : ℕ) (v : HeldObject) → finite.get m k ≡ Some v → AreSmall (finite.entries m) → AreSmall (finite.entries (finite.remove m k))
small-remove m k v is all =
    let again : AreSmall (finite.entries (finite.insert (finite.remove m k) k v)) = subst (λ (n : Held). AreSmall (finite.entries n)) (sym (back m k v is)) all in
    small-unput k v _ (not_found (finite.remove m k) k (gone m k)) (subst AreSmall (finite.entries-insert nat_cmp_total (finite.remove m k) k v) again)

-- How large a ledger may be.

share-le : (b : Bool) (counted : ℕ) → counted < 2 ^ 64 → cond b counted 0 ≤ 2 ^ 64
share-le true counted small = omega arith
share-le false counted small = omega arith

pub sum_by-small : (p : Properties) (heap : ℕ) (es : Entries) → AreSmall es → sum_by (share p heap) es ≤ length es * 2 ^ 64
sum_by-small p heap [] all = omega arith
sum_by-small p heap (e ∷ es) all = omega (arith, sum_by-cons (share p heap) e es, share-le (heap_at p e.1.memory_type == heap) e.1.counted all.0, sum_by-small p heap es all.1)

-- a number of bytes more is still far below the largest number
pub ledger-bound : (p : Properties) (heap : ℕ) (m : Held) (n : ℕ) → AreSmall (finite.entries m) → finite.len m < 2 ^ 32 → n < 2 ^ 64 → sum_by (share p heap) (finite.entries m) + n < 2 ^ 128
ledger-bound p heap m n all few small = omega (arith, sum_by-small p heap (finite.entries m) all, finite.len-entries m)

-- What was asked for of a heap is a part of its ledger.

part-le : (import : Bool) (n : ℕ) → cond import 0 n ≤ n
part-le true n = omega arith
part-le false n = omega arith

pub asked-part : (p : Properties) (heap : ℕ) (es : Entries) → sum_by (asked_share p heap) es ≤ sum_by (share p heap) es
asked-part p heap [] = omega arith
asked-part p heap (e ∷ es) = omega (arith, sum_by-cons (asked_share p heap) e es, sum_by-cons (share p heap) e es, part-le (is_import e.1.kind) (share p heap e), asked-part p heap es)

-- no part of nothing
pub part-none : (import : Bool) (n : ℕ) → n ≡ 0 → cond import 0 n ≡ 0
part-none true n none = refl
part-none false n none = none
