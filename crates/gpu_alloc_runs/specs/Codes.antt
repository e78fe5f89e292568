-- How contracts see these values.
use Rattle.std.specs.Prelude.{ℕ, refl}
use Rattle.std.specs.Coded.{Coded, code_by, coded×, coded_ℕ}
use Rattle.std.specs.FinMap as map
use Rattle.std.specs.FinSet as set
use Rattle.gpu_alloc_base.specs.Accounts.{HeldChunks}
use Rattle.gpu_alloc_base.specs.Codes.{chunk_code, slot_code}
use Rattle.gpu_alloc_base.specs.Slots.{slot_cmp}
use Rattle.gpu_alloc_runs.specs.Fits.{FitStore}
use Rattle.gpu_alloc_runs.specs.Space.{FitSpace}

abbrev pub fit_space_code : Coded FitSpace
fit_space_code =
    code_by (HeldChunks × set.FinSet slot_cmp) (coded× (map.code coded_ℕ chunk_code) (set.code slot_code))
    (λ s. (s.chunks, s.live)) (λ c. record { chunks = c.0; live = c.1 }) (λ _. refl)

abbrev pub fit_store_code : Coded FitStore
fit_store_code =
    code_by (FitSpace × (ℕ × ℕ)) (coded× fit_space_code (coded× coded_ℕ coded_ℕ))
    (λ s. (s.space, (s.chunk_room, s.tile_room)))
    (λ c. record { space = c.0; chunk_room = c.1.0; tile_room = c.1.1 }) (λ _. refl)
