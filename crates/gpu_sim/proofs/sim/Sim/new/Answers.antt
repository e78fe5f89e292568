use Rattle.std.proofs.Common.{subst, sym}
use Rattle.gpu_sim.specs.Sim.{IsSoundSim}
use Rattle.gpu_sim.proofs.SimSound.{sound-empty}
use Rattle.gpu_sim.proofs.sim.Sim.new.Goals as goal

pub invariant_of-result : goal.invariant_of-result
invariant_of-result g c = subst (IsSoundSim 0 c.in_ok-new.field-0) (sym c.new-6.ensures) (sound-empty c.in_ok-new.field-0)
