-- What a grant does to the device's objects, whatever holds its block.
use Rattle.std.specs.Prelude.{◌≡◌, ℕ, Option, Some, None, MatchOption}
use Rattle.gpu_alloc_types.specs.Device.{Object, put}

-- the device holds one object more, which is as the allocator counts it
pub record HasOneMore {C : Type 0} (IsAs : C → Object → Type 0) (after : Option C) (object : ℕ)
    (old new : ℕ → Option Object) : Type 0 where
  pub counted : C
  pub is_counted : after ≡ Some counted
  pub was_free : old object ≡ None
  pub made : Object
  pub is_as : IsAs counted made
  pub now : new ≡ put old object (Some made)

-- One object more, as it is counted after, where the block's object was not counted before; else nothing changes.
abbrev pub ObjectsGiven : {C : Type 0} → (C → Object → Type 0) → Option C → Option C → ℕ → (ℕ → Option Object)
    → (ℕ → Option Object) → Type 0
ObjectsGiven IsAs before after object old new =
    MatchOption before (HasOneMore IsAs after object old new) (λ _. new ≡ old)
