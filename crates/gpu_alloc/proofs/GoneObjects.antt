-- What is held, and what the device has, once some objects are gone.
use Rattle.std.proofs.Common.{◌≡◌, inl, inr, ℕ, ◌+◌, List, [], ◌∷◌, ◌++◌, length, length-append, Option, Some, None, Contains, refl, sym, ◌∙◌, ap, subst, arith}
use Rattle.std.proofs.lemmas.List.{map-append}
use Rattle.std.specs.FinMap as finite
use Rattle.gpu_alloc_types.specs.Device.{Event, Object, put}
use Rattle.gpu_alloc_types.specs.Device.Event.{Deallocated}
use Rattle.gpu_alloc_base.proofs.Lists.{contains_cases, contains_head, contains_later, contains_none}
use Rattle.gpu_alloc_base.proofs.Maps.{kept_key, kept_other}
use Rattle.gpu_alloc_block.specs.State.{HeldObject, State}
use Rattle.gpu_alloc.specs.Release.{Releases, without_all, without_objects}
use Rattle.gpu_alloc.proofs.Ledgers.{Held}

-- the state with these objects fewer
abbrev pub without_these : State → List ℕ → State
without_these s names = record s { held = without_all s.held names; remaining = s.remaining + length names }

-- what is held then was held, and has another name
pub kept_was : (held : Held) (gone : List ℕ) (object : ℕ) (h : HeldObject) → finite.get (without_all held gone) object ≡ Some h → (Contains gone object → ⊥) × (finite.get held object ≡ Some h)
kept_was held [] object h is = ((λ has. contains_none object has), is)
kept_was held (name ∷ gone) object h is =
    let later = kept_was (finite.remove held name) gone object h is in
    let first = kept_key held name object h later.1 in
    ((λ has. elim (contains_cases name object gone has) [ inl same ↦ first.0 same | inr rest ↦ later.0 rest ]), first.1)

-- another name is held as before
pub kept_is : (held : Held) (gone : List ℕ) (object : ℕ) → (Contains gone object → ⊥) → finite.get (without_all held gone) object ≡ finite.get held object
kept_is held [] object other = refl
kept_is held (name ∷ gone) object other =
    kept_is (finite.remove held name) gone object (λ has. other (contains_later name object gone has))
    ∙ kept_other held name object (λ same. other (subst (Contains (name ∷ gone)) (sym same) (contains_head name gone)))

-- With more at the end.

without_more : (held : Held) (names more : List ℕ) → without_all held (names ++ more) ≡ without_all (without_all held names) more
without_more held [] more = refl
without_more held (n ∷ names) more = without_more (finite.remove held n) names more

pub objects_more : (objects : ℕ → Option Object) (names more : List ℕ) → without_objects objects (names ++ more) ≡ without_objects (without_objects objects names) more
objects_more objects [] more = refl
objects_more objects (n ∷ names) more = objects_more (put objects n None) names more

pub lets_more : (s now after : State) (names more : List ℕ) (es fs : List Event) → Releases s names es now → Releases now more fs after → Releases s (names ++ more) (es ++ fs) after
lets_more s now after names more es fs (told, is) (also, then) = (
  (λ k. told k ++ also k) ∙ sym (map-append Deallocated names more),
  then ∙ ap (λ (x : State). without_these x more) is ∙ (λ k. record s { held = sym (without_more s.held names more) k; remaining = count k }),
)
  where
    count : s.remaining + length names + length more ≡ s.remaining + length (names ++ more)
    count = omega (arith, length-append names more)
