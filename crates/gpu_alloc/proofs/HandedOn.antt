-- What a store is handed: an index that stays below a length, and the address flag.
use Rattle.std.proofs.Common.{◌≡◌, ℕ, Bool, true, false, cond, IsTrue, ◌<◌, length, subst, arith}
use Rattle.gpu_alloc_types.specs.Flags.{has_bit}

-- an index and a length that are another's
pub below : {a b m n : ℕ} → a ≡ b → m ≡ n → b < n → a < m
below e k h = omega arith

-- flags with the address bit are asked for only where the device has the feature
pub address_there : (bits : ℕ) (has device : Bool) → bits ≡ cond has 1 0 → device ≡ has → IsTrue (has_bit bits 1) → IsTrue device
address_there bits true device e is asked = is
address_there bits false device e is asked = let none : IsTrue (has_bit 0 1) = subst (λ n. IsTrue (has_bit n 1)) e asked in absurd (cc)
