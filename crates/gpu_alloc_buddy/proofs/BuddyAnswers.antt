-- What a request is rounded to, what a chunk has, and what is known of a block and of a return.
use Rattle.std.proofs.Common.{◌≡◌, inl, inr, ℕ, ◌+◌, ◌%◌, ◌^◌, ◌<◌, ◌≤◌, List, [], ◌∷◌, Result, Ok, Err, IfOk, sym, ◌∙◌, ap, arith}
use Rattle.std.specs.Prelude.{max}
use Rattle.std.proofs.lemmas.Bool.{cases_lt}
use Rattle.std.proofs.Math.Nat.{one-mul}
use Rattle.gpu_alloc_types.specs.Device.{Event}
use Rattle.gpu_alloc_types.specs.Device.Event.{Deallocated}
use Rattle.gpu_alloc_base.specs.Accounts.{Account}
use Rattle.gpu_alloc_base.specs.AlignMasks.{IsAlignMask}
use Rattle.gpu_alloc_base.specs.Case.{Answers}
use Rattle.gpu_alloc_base.specs.Chunks.{Chunk}
use Rattle.gpu_alloc_base.specs.FreeSpace.{IsMultipleOf, IsPowerOfTwo}
use Rattle.gpu_alloc_base.specs.Wanted.{Wanted}
use Rattle.gpu_alloc_base.specs.declared.buddy_block.Leaf.{Leaf}
use Rattle.gpu_alloc_base.specs.declared.error.AllocationError.{AllocationError}
use Rattle.gpu_alloc_base.proofs.AlignedPowers.{doubled, order-le, pow-le}
use Rattle.gpu_alloc_base.proofs.Maps.{one_value}
use Rattle.gpu_alloc_base.proofs.Multiples.{mod_from_multiple, multiple_of_lower}
use Rattle.gpu_alloc_base.proofs.PowersOfTwo.{digits_are_least, is_next_power_of_two, power_of_bit}
use Rattle.gpu_alloc_buddy.specs.Buddy.{Adds, Frees, IsGranted, buddy_case, chunk_size, rounded}
use Rattle.gpu_alloc_buddy.specs.BuddyRule.{buddy_rule, order_for}
use Rattle.gpu_alloc_buddy.specs.BuddySound.{IsSoundBuddy}
use Rattle.gpu_alloc_buddy.specs.BuddyState.{Buddy, IsLiveBuddyLeaf}
use Rattle.gpu_alloc_shared.specs.Shared as shared

-- Sizes.

pub same_order : (j k : ℕ) → 2 ^ j ≡ 2 ^ k → j ≡ k
same_order j k is = omega (arith, order-le j k (omega (arith, is)), order-le k j (omega (arith, is)))

-- the next chunk's order
pub chunk_size_is : (b : Buddy) (next order : ℕ) → b.next_chunk ≡ 2 ^ next → chunk_size b (2 ^ order) ≡ 2 ^ max next (order + 1)
chunk_size_is b next order is = elim (cases_lt next (order + 1)) [
  | inl lt ↦ let e : max next (order + 1) ≡ order + 1 = omega arith in rw e (omega (arith, is, doubled order, pow-le next (order + 1) (omega arith)))
  | inr ge ↦ let e : max next (order + 1) ≡ next = omega arith in rw e (omega (arith, is, doubled order, pow-le (order + 1) next ge))
]

-- A request is rounded to a power of two, of which the rule knows the exponent.

module _ (b : Buddy) (w : Wanted) (s : IsSoundBuddy b) (small : w.size < 2 ^ 64) (mask : IsAlignMask w.align_mask) where
  below : max (max w.size (w.align_mask + 1)) (max b.atom b.minimal) < 2 ^ 64
  below = omega (arith, small, mask.bound, s.atom.1.1, s.minimal.1.1, pow-le s.atom.0 62 s.atom.1.0, pow-le s.minimal.0 63 s.minimal.1.0)

  pub order_is : rounded b w ≡ 2 ^ order_for b w.size w.align_mask
  order_is = digits_are_least (max (max w.size (w.align_mask + 1)) (max b.atom b.minimal)) below

  pub rounded_enough : max (max w.size (w.align_mask + 1)) (max b.atom b.minimal) ≤ rounded b w
  rounded_enough = (is_next_power_of_two (max (max w.size (w.align_mask + 1)) (max b.atom b.minimal)) (omega (arith, below))).enough

-- What is known of the block.

pub answers_sized : (a new : Account Buddy) (size flags : ℕ) (es : List Event) (answer : Result Leaf AllocationError) → Answers (buddy_case a size flags) es answer new → IfOk answer (λ leaf. leaf.size ≡ size)
answers_sized a new size flags es (Ok leaf) (inl gives) = gives.place.of_size
answers_sized a new size flags es (Ok leaf) (inr gives) = gives.place.of_size
answers_sized a new size flags es (Err e) refused = tt

-- a multiple of a power of two leaves no rest by a lower one
lower_multiple : (x n m : ℕ) → IsPowerOfTwo n → IsPowerOfTwo m → n ≤ m → IsMultipleOf m x → x % n ≡ 0
lower_multiple x n m of_n of_m le multiple = mod_from_multiple n x (multiple_of_lower n m x of_n of_m le multiple)

pub granted_so : (b new : Buddy) (w : Wanted) → IsSoundBuddy b → IsSoundBuddy new → w.size < 2 ^ 64 → IsAlignMask w.align_mask → (answer : Result Leaf AllocationError) → IfOk answer (λ leaf. leaf.size ≡ rounded b w) → IfOk answer (Adds b new)
    → IfOk answer (IsGranted b w new)
granted_so b new w s now small mask (Ok leaf) size adds =
    let there = now.space.inside leaf adds.own.is_live in
    let enough = rounded_enough b w s small mask in
    let atom : IsPowerOfTwo b.atom = (s.atom.0, s.atom.1.1) in
    let atoms : b.atom ≤ leaf.size = omega (arith, enough, size) in
    record {
      enough = omega (arith, enough, size);
      aligned = lower_multiple leaf.offset (w.align_mask + 1) leaf.size (power_of_bit (w.align_mask + 1) mask.power) there.power (omega (arith, enough, size)) there.aligned;
      whole_atoms = (lower_multiple leaf.offset b.atom leaf.size atom there.power atoms there.aligned, lower_multiple leaf.size b.atom leaf.size atom there.power atoms (1, sym (one-mul leaf.size)));
      power = there.power;
      front = there.aligned;
      inside = (there.chunk, there.held, (there.object, there.inside));
      live = adds.own.is_live;
      was_free = λ other live same at in_other in_leaf. (adds.before other (record { is_live = live })).apart same at in_other in_leaf;
    }
granted_so b new w s now small mask (Err e) size adds = tt

-- A chunk that is released with a block is of the block's object.
pub frees_so : (a new : Account Buddy) (leaf : Leaf) (es : List Event) → IsSoundBuddy a.allocator → IsLiveBuddyLeaf a.allocator leaf → shared.Frees buddy_rule a leaf es new → Frees a leaf es new
frees_so a new leaf es s live (inl stays) = inl stays
frees_so a new leaf es s live (inr goes) =
    let there = s.space.inside leaf live in
    let object = there.object ∙ ap (λ (c : Chunk). c.object) (one_value _ there.chunk goes.1.0 there.held goes.1.1) in
    inr (goes.0, (goes.1.0, goes.1.1, (goes.1.2.0 ∙ ap (λ o. Deallocated o ∷ []) (sym object), goes.1.2.1)))
