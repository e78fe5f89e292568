-- Live blocks of a free list in their order, and the set of a list of them.
use Rattle.std.proofs.Common.{◌≡◌, true, ◌⊎◌, List, get_or, Equal, refl}
use Rattle.std.specs.Bool.{Decides}
use Rattle.std.specs.Cmp.{IsTotalOrder}
use Rattle.std.specs.Cmp.Lexicographic.{on_texts}
use Rattle.std.specs.List.{Contains}
use Rattle.std.specs.Ordering.{eq_by_cmp}
use Rattle.gpu_alloc_base.specs.Slots.{slot_numbers, slot_cmp}
use Rattle.gpu_alloc_base.specs.declared.free_list_block.Slot.{Slot}
use Rattle.gpu_alloc_base.proofs.ListSets.{exact_by, key_test, in_set, in_inserted, in_removed, same_or_left}
use Rattle.std.specs.FinSet as set

pub slot_total : IsTotalOrder slot_cmp
slot_total = on_texts slot_numbers

pub slot_exact : (a b : Slot) → slot_cmp a b ≡ Equal → a ≡ b
slot_exact = exact_by slot_numbers (λ ns. record { object = get_or ns 0 0; chunk = get_or ns 1 0; offset = get_or ns 2 0; size = get_or ns 3 0 }) (λ slot. refl)

pub slot_test : (a b : Slot) → Decides (eq_by_cmp slot_cmp a b) (a ≡ b)
slot_test a b = key_test slot_cmp slot_total slot_exact a b

-- a slot is live exactly where it is in the list
pub in_slots : (slots : List Slot) (q : Slot) → Decides (set.contains (set.from_list {R = slot_cmp} slots) q) (Contains slots q)
in_slots slots q = in_set slot_cmp slot_total slot_exact slots q

pub slot_inserted : (s : set.FinSet slot_cmp) (k q : Slot) → Decides (set.contains (set.insert s k) q) ((q ≡ k) ⊎ (set.contains s q ≡ true))
slot_inserted s k q = in_inserted slot_cmp slot_total slot_exact s k q

pub slot_removed : (s : set.FinSet slot_cmp) (k q : Slot) → Decides (set.contains (set.remove s k) q) ((q ≡ k → ⊥) × (set.contains s q ≡ true))
slot_removed s k q = in_removed slot_cmp slot_total slot_exact s k q

pub slot_same_or_left : (s : set.FinSet slot_cmp) (k q : Slot) → set.contains s q ≡ true → (q ≡ k) ⊎ (set.contains (set.remove s k) q ≡ true)
slot_same_or_left s k q has = same_or_left slot_cmp slot_total slot_exact s k q has
