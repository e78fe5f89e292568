-- The names before the index were read, no name comes twice, and the rest of the room stays as it was.
use Rattle.std.proofs.Common.{◌≡◌, drop, take}
use Rattle.gpu_answers.specs.Held.{KeepsNames}
use Rattle.wallthyme.specs.Objects.{Reads}
use Rattle.wallthyme.proofs.objects.read_gone.Given as goal

abbrev pub invariant-loop-count : goal.invariant-loop-count
invariant-loop-count l = record {
  read : Reads l.fn.desk (take l.count l.names) l.desk;
  names : KeepsNames (l.fn.desk.device).held (l.desk.device).held;
  rest : drop l.count l.names ≡ drop l.count l.fn.names;
}
