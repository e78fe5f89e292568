-- What holds of every step of the device, and of its objects.
use Rattle.std.specs.Prelude.{◌≡◌, ℕ, ◌+◌, ◌≤◌, Bool, true, false, cond, [], length, replicate, Option, Some, None}
use Rattle.std.specs.Prelude.{option_map, IfSome, nat_le, refl}
use Rattle.std.specs.FinMap as map
use Rattle.std.proofs.Common.{arith}
use Rattle.std.proofs.lemmas.Bool.Decides.{nat_tests}
use Rattle.std.proofs.lemmas.List.{length-replicate}
use Rattle.gpu_alloc_types.specs.Properties.{Properties, is_host_visible}
use Rattle.gpu_alloc_types.specs.Device.{Event, Row, IsWellFormed}
use Rattle.gpu_answers.specs.Device.{IsStep, objects_of, shown_object, within}
use Rattle.gpu_answers.specs.DeviceState.{DeviceState}
use Rattle.gpu_answers.specs.declared.objects.HeldObject.{HeldObject}

pub step_is_row : (old : DeviceState) (e : Event) (new : DeviceState) → IsStep old e new
    → Row old.properties (objects_of old) e (objects_of new)
step_is_row old e new step = step.row

pub step_keeps_properties : (old : DeviceState) (e : Event) (new : DeviceState) → IsStep old e new
    → new.properties ≡ old.properties
step_keeps_properties old e new step = step.offers

length-zeros : (seen : Bool) (size : ℕ) → length {A = ℕ} (cond seen (replicate size 0) []) ≡ cond seen size 0
length-zeros true size = length-replicate size 0
length-zeros false size = refl

within_ends : (size : ℕ) (range : Option (ℕ × ℕ)) → IfSome (within size range) (λ r. r.0 + r.1 ≤ size)
within_ends size None = tt
within_ends size (Some r) = by (nat_le (r.0 + r.1) size) refl
  where
    at_most : nat_le (r.0 + r.1) size ≡ true → r.0 + r.1 ≤ size
    at_most e = grind (arith, nat_tests)

    by : (b : Bool) → nat_le (r.0 + r.1) size ≡ b → IfSome (cond b (Some r) None) (λ r. r.0 + r.1 ≤ size)
    by true e = at_most e
    by false e = tt

shown_well_formed : (p : Properties) (found : Option HeldObject) → IfSome (option_map (shown_object p) found) (IsWellFormed p)
shown_well_formed p None = tt
shown_well_formed p (Some o) = record {
  host = length-zeros (is_host_visible p o.memory_type) o.size;
  device = length-zeros (is_host_visible p o.memory_type) o.size;
  coherent = λ is. refl;
  range = within_ends o.size o.mapped;
}

pub objects_are_well_formed : (s : DeviceState) (name : ℕ) → IfSome (objects_of s name) (IsWellFormed s.properties)
objects_are_well_formed s name = shown_well_formed s.properties (map.get s.held.objects name)
