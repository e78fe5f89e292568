-- How a request of C ends, by whether it may be served only from what is held.
use Rattle.std.specs.Prelude.{List, map, MatchBool}
use Rattle.gpu_desk.specs.Calls.{Allocated, AllocatedHeld, AllocationDenied, HeldDenied}
use Rattle.gpu_desk.specs.Desk.{DeskState}
use Rattle.gpu_desk.specs.declared.denial.Denial.{Denial}
use Rattle.wallthyme.specs.Layout.{answered_of, grant_of, is_held_only, request_of, wish_of}
use Rattle.wallthyme.specs.declared.layout.Block.{Block}
use Rattle.wallthyme.specs.declared.layout.Question.{Question}
use Rattle.wallthyme.specs.declared.layout.Request.{Request}

-- it is granted: from what is held, or in a run with these answers
abbrev pub IsAllocated : Request → List Question → Block → DeskState → DeskState → Type 0
IsAllocated r asked b old new =
    MatchBool (is_held_only r) (AllocatedHeld old (request_of r) (wish_of r) new (grant_of b))
    (Allocated old (request_of r) (wish_of r) (map answered_of asked) new (grant_of b))

-- it is denied for this reason
abbrev pub IsDenied : Request → List Question → DeskState → Denial → Type 0
IsDenied r asked s d =
    MatchBool (is_held_only r) (HeldDenied s (request_of r) (wish_of r) d)
    (AllocationDenied s (request_of r) (wish_of r) (map answered_of asked) d)
