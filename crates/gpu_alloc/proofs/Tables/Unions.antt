-- Lists of held objects, one after the other.
use Rattle.std.proofs.Common.{◌≡◌, inl, inr, ℕ, Bool, true, false, cond, List, [], ◌∷◌, ◌++◌, Option, Some, None, refl, sym, ◌∙◌, ap}
use Rattle.std.specs.Cmp.{nat_cmp_total}
use Rattle.std.specs.FinMap as finite
use Rattle.std.specs.FinMap.{nat_cmp-IsAntisymmetric}
use Rattle.std.specs.FinSet as set
use Rattle.std.specs.Ordering.{nat_cmp, eq_by_cmp}
use Rattle.std.specs.List.{Contains}
use Rattle.std.specs.Map.{keys_of}
use Rattle.gpu_alloc_base.proofs.Lists.{contains_cases, contains_none}
use Rattle.gpu_alloc_base.proofs.ListSets.{key_test}
use Rattle.gpu_alloc_block.specs.State.{HeldObject, span_cmp}
use Rattle.gpu_alloc.specs.Spans.{held_objects_in, held_of}
use Rattle.gpu_alloc.specs.declared.spans.HeldRow.{HeldRow}

abbrev pub Held : Type 0
Held = finite.FinMap nat_cmp HeldObject

abbrev pub Live : Type 0
Live = set.FinSet span_cmp

abbrev pub Entries : Type 0
Entries = List (ℕ × HeldRow)

-- objects with those of a list, of which the first counts where a name stands twice
abbrev pub over : Held → Entries → Held
over held [] = held
over held (e ∷ entries) = finite.insert (over held entries) e.0 (held_of e.1)

abbrev pub or_else : {X : Type 0} → Option X → Option X → Option X
or_else None o = o
or_else (Some x) o = Some x

-- What is held.

pub get_over : (m : Held) (es : Entries) (q : ℕ) → finite.get (over m es) q ≡ or_else (finite.get (held_objects_in es) q) (finite.get m q)
get_over m [] q = sym (ap (λ o. or_else o (finite.get m q)) (finite.get-empty nat_cmp q))
get_over m (e ∷ es) q =
    finite.get-insert nat_cmp_total (over m es) e.0 (held_of e.1) q ∙ ap (cond (eq_by_cmp nat_cmp q e.0) (Some (held_of e.1))) (get_over m es q)
    ∙ pushed (eq_by_cmp nat_cmp q e.0) (finite.get (held_objects_in es) q)
    ∙ ap (λ o. or_else o (finite.get m q)) (sym (finite.get-insert nat_cmp_total (held_objects_in es) e.0 (held_of e.1) q))
  where
    pushed : (b : Bool) (o : Option HeldObject) → cond b (Some (held_of e.1)) (or_else o (finite.get m q)) ≡ or_else (cond b (Some (held_of e.1)) o) (finite.get m q)
    pushed true o = refl
    pushed false o = refl

-- As a list.

pub objects_append : (es fs : Entries) → held_objects_in (es ++ fs) ≡ over (held_objects_in fs) es
objects_append [] fs = refl
objects_append (e ∷ es) fs = ap (λ (m : Held). finite.insert m e.0 (held_of e.1)) (objects_append es fs)

-- a name of the list is one of the map
pub key_there : (es : Entries) (q : ℕ) → Contains (keys_of es) q → (h : HeldObject) × (finite.get (held_objects_in es) q ≡ Some h)
key_there [] q has = absurd (contains_none q has)
key_there (e ∷ es) q has = cases (key_there es q) (eq_by_cmp nat_cmp q e.0) refl
  where
    found : (b : Bool) → eq_by_cmp nat_cmp q e.0 ≡ b → finite.get (held_objects_in (e ∷ es)) q ≡ cond b (Some (held_of e.1)) (finite.get (held_objects_in es) q)
    found b is = finite.get-insert nat_cmp_total (held_objects_in es) e.0 (held_of e.1) q ∙ ap (λ t. cond t (Some (held_of e.1)) (finite.get (held_objects_in es) q)) is

    cases : (Contains (keys_of es) q → (h : HeldObject) × (finite.get (held_objects_in es) q ≡ Some h)) → (b : Bool) → eq_by_cmp nat_cmp q e.0 ≡ b → (h : HeldObject) × (finite.get (held_objects_in (e ∷ es)) q ≡ Some h)
    cases later true is = (held_of e.1, found true is)
    cases later false is = elim (contains_cases e.0 q (keys_of es) has) [
      | inl same ↦ absurd (let yes = (key_test nat_cmp nat_cmp_total nat_cmp-IsAntisymmetric q e.0).1 same in cc)
      | inr has_later ↦ let rest = later has_later in (rest.0, found false is ∙ rest.1)
    ]
