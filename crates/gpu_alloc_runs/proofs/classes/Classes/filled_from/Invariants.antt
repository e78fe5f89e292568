use Rattle.std.proofs.Common.{◌≡◌, ℕ, ◌*◌, ◌<◌, ◌≤◌}
use Rattle.gpu_alloc_runs.specs.Classes.{first_in}
use Rattle.gpu_alloc_runs.specs.declared.tile.TheConstants.{NONE}
use Rattle.gpu_alloc_runs.proofs.classes.Classes.filled_from.Given as goal

-- no class of an earlier word has a list
abbrev pub invariant-loop-next : goal.invariant-loop-next
invariant-loop-next l = (c : ℕ) → l.class ≤ c → c < l.next * 64 → first_in l.self c ≡ NONE
