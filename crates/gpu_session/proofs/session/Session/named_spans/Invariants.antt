use Rattle.std.proofs.Common.{◌≡◌, ◌++◌, map}
use Rattle.gpu_session.proofs.Rows.{row_of}
use Rattle.gpu_session.proofs.session.Session.named_spans.Given as goal

-- the rows so far, and those that are left
abbrev pub invariant-loop-name : goal.invariant-loop-name
invariant-loop-name g l =
    (goal.iterator-loop-name g).can_next l.name-iterator ×
    (goal.iterator-loop-name g).is_finite l.name-iterator ×
    (l.rows.items ++ map row_of l.name-iterator ≡ map row_of l.initial.name-iterator)
