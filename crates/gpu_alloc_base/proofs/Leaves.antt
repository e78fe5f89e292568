-- Leaves in their order, and the set of a list of them.
use Rattle.std.proofs.Common.{◌≡◌, true, ◌⊎◌, inl, inr, List, get_or, Equal, IsTrue, refl}
use Rattle.std.specs.Bool.{Decides}
use Rattle.std.specs.Cmp.{IsTotalOrder}
use Rattle.std.specs.Cmp.Lexicographic.{on_texts}
use Rattle.std.specs.FinSet as set
use Rattle.std.specs.List.{Contains}
use Rattle.std.specs.Ordering.{eq_by_cmp}
use Rattle.gpu_alloc_base.specs.Leaves.{leaf_numbers, leaf_cmp}
use Rattle.gpu_alloc_base.specs.declared.buddy_block.Leaf.{Leaf}
use Rattle.gpu_alloc_base.proofs.ListSets.{exact_by, key_test, in_set, in_inserted, in_removed, same_or_left}

pub leaf_total : IsTotalOrder leaf_cmp
leaf_total = on_texts leaf_numbers

pub leaf_exact : (a b : Leaf) → leaf_cmp a b ≡ Equal → a ≡ b
leaf_exact = exact_by leaf_numbers (λ ns. record { object = get_or ns 0 0; chunk = get_or ns 1 0; offset = get_or ns 2 0; size = get_or ns 3 0; index = get_or ns 4 0 }) (λ leaf. refl)

pub leaf_test : (a b : Leaf) → Decides (eq_by_cmp leaf_cmp a b) (a ≡ b)
leaf_test a b = key_test leaf_cmp leaf_total leaf_exact a b

pub leaf_inserted : (s : set.FinSet leaf_cmp) (k q : Leaf) → Decides (set.contains (set.insert s k) q) ((q ≡ k) ⊎ (set.contains s q ≡ true))
leaf_inserted s k q = in_inserted leaf_cmp leaf_total leaf_exact s k q

-- who is live once a leaf is added
pub was_live : (live : set.FinSet leaf_cmp) (leaf q : Leaf) → IsTrue (set.contains (set.insert live leaf) q) → (q ≡ leaf) ⊎ IsTrue (set.contains live q)
was_live live leaf q is = (leaf_inserted live leaf q).0 is

pub still_live : (live : set.FinSet leaf_cmp) (leaf q : Leaf) → IsTrue (set.contains live q) → IsTrue (set.contains (set.insert live leaf) q)
still_live live leaf q is = (leaf_inserted live leaf q).1 (inr is)

pub now_live : (live : set.FinSet leaf_cmp) (leaf : Leaf) → IsTrue (set.contains (set.insert live leaf) leaf)
now_live live leaf = (leaf_inserted live leaf leaf).1 (inl refl)

pub leaf_removed : (s : set.FinSet leaf_cmp) (k q : Leaf) → Decides (set.contains (set.remove s k) q) ((q ≡ k → ⊥) × (set.contains s q ≡ true))
leaf_removed s k q = in_removed leaf_cmp leaf_total leaf_exact s k q

pub leaf_same_or_left : (s : set.FinSet leaf_cmp) (k q : Leaf) → set.contains s q ≡ true → (q ≡ k) ⊎ (set.contains (set.remove s k) q ≡ true)
leaf_same_or_left s k q has = same_or_left leaf_cmp leaf_total leaf_exact s k q has

-- a leaf is live exactly where it is in the list
pub in_leaves : (leaves : List Leaf) (q : Leaf) → Decides (set.contains (set.from_list {R = leaf_cmp} leaves) q) (Contains leaves q)
in_leaves leaves q = in_set leaf_cmp leaf_total leaf_exact leaves q
