-- How contracts see these values.
use Rattle.std.specs.Prelude.{ℕ, refl}
use Rattle.std.specs.Coded.{Coded, code_by, coded×, coded_ℕ}
use Rattle.gpu_alloc_fit.specs.FitState.{FitState}
use Rattle.gpu_alloc_fit.specs.FitRule.{Stored}
use Rattle.gpu_alloc_runs.specs.Codes.{fit_space_code}
use Rattle.gpu_alloc_shared.specs.Sized.{sized_code}

abbrev pub fitting_code : Coded FitState
fitting_code = sized_code fit_space_code

abbrev pub stored_code : Coded Stored
stored_code =
    code_by (FitState × (ℕ × ℕ)) (coded× fitting_code (coded× coded_ℕ coded_ℕ))
    (λ s. (s.state, (s.chunk_room, s.tile_room)))
    (λ c. record { state = c.0; chunk_room = c.1.0; tile_room = c.1.1 })
    (λ _. refl)
