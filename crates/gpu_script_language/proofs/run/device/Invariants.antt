use Rattle.std.proofs.Common.{◌≡◌}
use Rattle.gpu_script_language.specs.Setup.{offered}
use Rattle.gpu_script_language.proofs.run.device.Given as goal

-- what the device offers stays
abbrev pub invariant-loop-refusal : goal.invariant-loop-refusal
invariant-loop-refusal g l = l.device.properties ≡ offered l.setup
