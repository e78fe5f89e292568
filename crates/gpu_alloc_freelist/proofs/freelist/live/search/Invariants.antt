use Rattle.std.proofs.Common.{◌≡◌, ℕ, Some, Contains}
use Rattle.slab.specs.Slab.{get}
use Rattle.gpu_alloc_freelist.proofs.freelist.live.search.Given as goal

-- the block, where it stands, is among the entries that are left, and the slab has it under a key that they have it under
abbrev pub invariant-loop-key : goal.invariant-loop-key
invariant-loop-key g l =
    (goal.iterator-loop-key g).can_next l.key-iterator ×
    (goal.iterator-loop-key g).is_finite l.key-iterator ×
    ((key : ℕ) → get l.slots key ≡ Some l.slot → Contains l.key-iterator (key, l.slot)) ×
    ((key : ℕ) → Contains l.key-iterator (key, l.slot) → get l.slots key ≡ Some l.slot)
