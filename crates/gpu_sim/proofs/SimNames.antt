-- That no object of the simulated device has a name above the latest.
use Rattle.std.proofs.Common.{◌≡◌, ℕ, ◌<◌, Bool, true, false, cond, Option, Some, None, inl, inr, refl, subst, ◌∙◌, arith}
use Rattle.std.proofs.lemmas.Bool.Decides.{nat_tests}
use Rattle.std.specs.Cmp.{nat_cmp_total}
use Rattle.std.specs.FinMap as map
use Rattle.std.specs.FinMap.{FinMap}
use Rattle.std.specs.Ordering.{nat_cmp, eq_by_cmp}
use Rattle.gpu_alloc_types.specs.Device.{Object}
use Rattle.gpu_alloc_base.proofs.Names.{one_or_two, get_put-other}
use Rattle.gpu_sim.specs.Sim.{IsNamedUpTo}

apart_test : (q name : ℕ) → name < q → eq_by_cmp nat_cmp q name ≡ false
apart_test q name above = grind (arith, nat_tests)

cond-none : {X : Type 0} (b : Bool) (x : Option X) → x ≡ None → cond b None x ≡ None
cond-none true x none = refl
cond-none false x none = none

pub named_up_to-empty : (last : ℕ) → IsNamedUpTo last map.empty
named_up_to-empty last name above = map.get-empty nat_cmp name

pub named_up_to-insert : (last name : ℕ) (objects : FinMap nat_cmp Object) (object : Object) → last < name → IsNamedUpTo last objects → IsNamedUpTo name (map.insert objects name object)
named_up_to-insert last name objects object later named q above =
    rw (map.get-insert nat_cmp_total objects name object q, apart_test q name above) (named q (omega arith))

-- an object in the place of another
pub named_up_to-replace : (last name : ℕ) (objects : FinMap nat_cmp Object) (object there : Object) → map.get objects name ≡ Some there → IsNamedUpTo last objects → IsNamedUpTo last (map.insert objects name object)
named_up_to-replace last name objects object there is named q above = elim (one_or_two q name) [
  | inl same ↦ absurd (let none = subst (λ n. map.get objects n ≡ None) same (named q above) in cc)
  | inr other ↦ get_put-other objects name object q other ∙ named q above
]

pub named_up_to-remove : (last : ℕ) (objects : FinMap nat_cmp Object) (gone : ℕ) → IsNamedUpTo last objects → IsNamedUpTo last (map.remove objects gone)
named_up_to-remove last objects gone named name above =
    map.get-remove nat_cmp_total objects gone name ∙ cond-none (eq_by_cmp nat_cmp name gone) (map.get objects name) (named name above)
