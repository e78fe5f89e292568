-- What contracts see of a cache of textures.
use Rattle.std.specs.Prelude.{◌≡◌, ℕ, List, Option, refl, IsSomeAnd}
use Rattle.std.specs.Coded.{Coded, code_by, coded×, coded_ℕ, coded_list}
use Rattle.gpu_alloc.specs.Allocation.{IsGranted}
use Rattle.gpu_alloc.specs.Codes.{block_code, state_code}
use Rattle.gpu_alloc.specs.Keyed.{under}
use Rattle.gpu_alloc.specs.State.{Block, State}
use Rattle.gpu_alloc.specs.declared.request.Request.{Request}

-- its allocator, its device, and the blocks with their keys, the oldest first
pub record CacheState (D : Type 0) : Type 0 where
  pub allocator : State
  pub device : D
  pub textures : List (ℕ × Block)

abbrev pub cache_code : {D : Type 0} → Coded D → Coded (CacheState D)
cache_code {D} d =
    code_by (State × (D × List (ℕ × Block)))
    (coded× state_code (coded× d (coded_list (coded× coded_ℕ block_code))))
    (λ c. (c.allocator, (c.device, c.textures)))
    (λ c. record { allocator = c.0; device = c.1.0; textures = c.1.1 }) (λ _. refl)

-- the texture under a key
abbrev pub texture_at : {D : Type 0} → CacheState D → ℕ → Option Block
texture_at c key = under c.textures key

-- the texture under a key was granted as requested, by an allocator over the same device as this one
abbrev pub IsLoaded : {D : Type 0} → State → Request → CacheState D → ℕ → Type 0
IsLoaded old r new key =
    (before : State) × (before.properties ≡ old.properties)
    × IsSomeAnd (texture_at new key) (IsGranted before r new.allocator)
