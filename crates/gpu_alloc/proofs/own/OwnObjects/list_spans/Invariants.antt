use Rattle.std.proofs.Common.{◌≡◌, ◌++◌, map}
use Rattle.gpu_alloc.specs.Own.{live_span_of}
use Rattle.gpu_alloc.proofs.own.OwnObjects.list_spans.Given as goal

-- the rows so far, and those that are left
abbrev pub invariant-loop-row : goal.invariant-loop-row
invariant-loop-row g l =
    (goal.iterator-loop-row g).can_next l.row-iterator ×
    (goal.iterator-loop-row g).is_finite l.row-iterator ×
    (l.rows.items ++ map (λ e. live_span_of e.1) l.row-iterator ≡ l.fn.rows.items ++ map (λ e. live_span_of e.1) l.initial.row-iterator)
