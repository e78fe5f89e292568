-- How contracts see a state of the simulated device.
use Rattle.std.specs.Prelude.{ℕ, Option, refl}
use Rattle.std.specs.Coded.{Coded, code_by, coded×, coded_ℕ, coded_option}
use Rattle.std.specs.FinMap as map
use Rattle.std.specs.FinMap.{FinMap}
use Rattle.std.specs.Ordering.{nat_cmp}
use Rattle.gpu_alloc_types.specs.Codes.{properties_code}
use Rattle.gpu_alloc_types.specs.Device.{Object, Range}
use Rattle.gpu_alloc_types.specs.Properties.{Properties}
use Rattle.gpu_sim.specs.declared.sim.question.ByKind.{ByKind}
use Rattle.gpu_sim.specs.declared.sim.question.Cause.{Cause}
use Rattle.gpu_sim.specs.contracts.sim.question.Cause as cause
use Rattle.gpu_sim.specs.ObjectCode.{object_code, range_code}
use Rattle.gpu_sim.specs.Sim.{SimState}

abbrev pub by_kind_code : {T : Type 0} → Coded T → Coded (ByKind T)
by_kind_code {T} code =
    code_by ((T × T) × (T × T)) (coded× (coded× code code) (coded× code code))
    (λ all. ((all.allocate, all.map), (all.flush, all.invalidate)))
    (λ c. record { allocate = c.0.0; map = c.0.1; flush = c.1.0; invalidate = c.1.1 })
    (λ _. refl)

abbrev pub sim_code : Coded SimState
sim_code =
    code_by (Properties ×
    ((ByKind (FinMap nat_cmp Cause) × ByKind ℕ)
    × ((Option (ℕ × (ℕ × ℕ)) × Option Range) × (ℕ × FinMap nat_cmp Object))))
    (coded× properties_code
    (coded× (coded× (by_kind_code (map.code coded_ℕ cause.the_row.coded)) (by_kind_code coded_ℕ))
    (coded× (coded× (coded_option (coded× coded_ℕ (coded× coded_ℕ coded_ℕ))) (coded_option range_code))
    (coded× coded_ℕ (map.code coded_ℕ object_code)))))
    (λ s. (s.properties, ((s.plans, s.asked), ((s.last_allocation, s.last_range), (s.last_name, s.objects)))))
    (λ c. record {
      properties = c.0;
      plans = c.1.0.0;
      asked = c.1.0.1;
      last_allocation = c.1.1.0.0;
      last_range = c.1.1.0.1;
      last_name = c.1.1.1.0;
      objects = c.1.1.1.1;
    })
    (λ _. refl)
