-- What is decided before anything is asked, where there is no place.
use Rattle.std.proofs.Common.{inl, inr, [], Some, None, Err, refl}
use Rattle.gpu_alloc_base.specs.Case.{Case, Asks, Answers, RefusesFirst, RefusesQuestion}
use Rattle.gpu_alloc_base.specs.declared.error.AllocationError.{AllocationError}
use Rattle.gpu_alloc_base.specs.declared.error.AllocationError.TheVariants.{OutOfDeviceMemory, OutOfHostMemory, NoCompatibleMemoryTypes, TooManyObjects}

module _ {B S : Type 0} (c : Case B S) (fits : c.Fits) (no_place : c.HasPlace → ⊥) where
  -- the refusal of the question is the request's
  pub refuses_unasked : (e : AllocationError) → RefusesQuestion c (Some e) → RefusesFirst c (Some e)
  refuses_unasked OutOfDeviceMemory over = inr (record { fits = fits; no_place = no_place; remains = over.0 }, over.1)
  refuses_unasked TooManyObjects barred = record { fits = fits; no_place = no_place; barred = barred }
  refuses_unasked OutOfHostMemory never = absurd never
  refuses_unasked NoCompatibleMemoryTypes never = absurd never

  pub answers_unasked : (e : AllocationError) → RefusesQuestion c (Some e) → Answers c [] (Err e) c.before
  answers_unasked OutOfDeviceMemory over = (refl, inl (refuses_unasked OutOfDeviceMemory over, refl))
  answers_unasked TooManyObjects barred = (refl, refl, refuses_unasked TooManyObjects barred)
  answers_unasked OutOfHostMemory never = absurd never
  answers_unasked NoCompatibleMemoryTypes never = absurd never

  -- where nothing refuses it, it is asked
  pub asks_unrefused : RefusesQuestion c None → Asks c
  asks_unrefused may = record { has = record { fits = fits; no_place = no_place; remains = may.0 }; within = may.1 }
