use Rattle.std.proofs.Common.{◌≡◌, ◌++◌, map}
use Rattle.gpu_alloc.proofs.WholeLists.{slot_row}
use Rattle.gpu_alloc.proofs.allocator.listing.list_slots.Given as goal

-- the rows so far, and those that are left
abbrev pub invariant-loop-key : goal.invariant-loop-key
invariant-loop-key g l =
    (goal.iterator-loop-key g).can_next l.key-iterator ×
    (goal.iterator-loop-key g).is_finite l.key-iterator ×
    (l.rows.items ++ map slot_row l.key-iterator ≡ l.fn.rows.items ++ map slot_row l.initial.key-iterator)
