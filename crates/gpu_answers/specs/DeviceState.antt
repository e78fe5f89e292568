-- What contracts see of the device.
use Rattle.std.specs.Prelude.{refl}
use Rattle.std.specs.Coded.{Coded, code_by, coded×}
use Rattle.gpu_alloc_types.specs.Codes.{properties_code}
use Rattle.gpu_alloc_types.specs.Properties.{Properties}
use Rattle.gpu_answers.specs.Asking.{RunState}
use Rattle.gpu_answers.specs.Held.{HeldState, held_code}
use Rattle.gpu_answers.specs.contracts.run.Run as run

-- what it offers, the run with its answers, and the held objects
pub record DeviceState : Type 0 where
  pub properties : Properties
  pub run : RunState
  pub held : HeldState

abbrev pub device_code : Coded DeviceState
device_code =
    code_by (Properties × (RunState × HeldState)) (coded× properties_code (coded× run.the_row.coded held_code))
    (λ s. (s.properties, (s.run, s.held))) (λ c. record { properties = c.0; run = c.1.0; held = c.1.1 }) (λ _. refl)
