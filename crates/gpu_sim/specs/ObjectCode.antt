-- How contracts see an object and a range.
use Rattle.std.specs.Prelude.{ℕ, Option, List, refl}
use Rattle.std.specs.Coded.{Coded, code_by, coded×, coded_ℕ, coded_option, coded_list}
use Rattle.gpu_alloc_types.specs.Device.{Object, Range}

abbrev pub range_code : Coded Range
range_code =
    code_by (ℕ × (ℕ × ℕ)) (coded× coded_ℕ (coded× coded_ℕ coded_ℕ)) (λ r. (r.object, (r.offset, r.size)))
    (λ c. record { object = c.0; offset = c.1.0; size = c.1.1 }) (λ _. refl)

abbrev pub object_code : Coded Object
object_code =
    code_by ((ℕ × ℕ) × (Option (ℕ × ℕ) × (List ℕ × List ℕ)))
    (coded× (coded× coded_ℕ coded_ℕ)
    (coded× (coded_option (coded× coded_ℕ coded_ℕ)) (coded× (coded_list coded_ℕ) (coded_list coded_ℕ))))
    (λ o. ((o.memory_type, o.size), (o.mapped, (o.host_bytes, o.device_bytes))))
    (λ c. record {
      memory_type = c.0.0;
      size = c.0.1;
      mapped = c.1.0;
      host_bytes = c.1.1.0;
      device_bytes = c.1.1.1;
    })
    (λ _. refl)
