-- What the device makes of its objects, as every device shows it.
use Rattle.std.proofs.Common.{◌≡◌, ℕ, suc, ◌+◌, ◌≤◌, Bool, true, false, cond, List, [], ◌∷◌, slice_get, All, IsSome, Option, Some, None, Ok, refl, ap, subst, sym, ◌∙◌, arith, option_map, nat_le}
use Rattle.std.proofs.Math.Path.{fun_ext}
use Rattle.std.proofs.lemmas.Bool.Decides.{nat_tests}
use Rattle.std.specs.Cmp.{nat_cmp_total}
use Rattle.std.specs.FinMap as map
use Rattle.std.specs.FinMap.{FinMap}
use Rattle.std.specs.Ordering.{nat_cmp}
use Rattle.gpu_alloc_base.proofs.Maps.{name_test}
use Rattle.gpu_alloc_types.specs.Objects.{put-kept}
use Rattle.gpu_alloc_types.specs.Properties.{Properties}
use Rattle.gpu_alloc_types.specs.Device.{Object, Range, Row, Changes, InTurn, HeldWith, IsMappable, AreFlushable, IsFlushable, IsFlushed, IsInvalidated, IsMappedOver, IsUnmapped, put}
use Rattle.gpu_alloc_types.specs.Device.Event.{Allocated, Deallocated}
use Rattle.gpu_alloc_types.specs.declared.types.OutOfMemory.{OutOfMemory}
use Rattle.gpu_answers.specs.Device.{all_shown, shown_object, within}
use Rattle.gpu_answers.specs.Held.{ChangesHeldObject, held_mapped_as, new_held_object}
use Rattle.gpu_answers.specs.declared.objects.HeldObject.{HeldObject}

-- where host and device see the same bytes, a flush or an invalidate changes nothing
flush_is_calm : (r : Range) (o : Object) → o.device_bytes ≡ o.host_bytes → IsFlushed {E = OutOfMemory} (Ok tt) r o o
flush_is_calm r o same = (o.device_bytes, record { outside = λ k _. refl; inside = λ k _ _. ap (λ bytes. slice_get bytes k) same }, refl)

invalidate_is_calm : (r : Range) (o : Object) → o.host_bytes ≡ o.device_bytes → IsInvalidated {E = OutOfMemory} (Ok tt) r o o
invalidate_is_calm r o same = (o.host_bytes, record { outside = λ k _. refl; inside = λ k _ _. ap (λ bytes. slice_get bytes k) same }, refl)

-- and neither do such changes in turn
calm_in_turn : (P : Range → Object → Object → Type 0) (Q : Range → Object → Type 0) (objects : ℕ → Option Object)
    → ((r : Range) (o : Object) → objects r.object ≡ Some o → P r o o) → (rs : List Range) → All (λ r. HeldWith objects r.object (Q r)) rs → InTurn P rs objects objects
calm_in_turn P Q objects calm [] held = refl
calm_in_turn P Q objects calm (r ∷ rs) held =
    let first = held 0 r (omega arith) in (
      objects,
      (first.0, first.1, (first.0, calm r first.0 first.1, sym (put-kept objects r.object (Some first.0) first.1))),
      calm_in_turn P Q objects calm rs (λ k d below. held (suc k) d (omega (arith, below))),
    )

within_is : (size : ℕ) (r : ℕ × ℕ) → r.0 + r.1 ≤ size → within size (Some r) ≡ Some r
within_is size r le = ap (λ b. cond b (Some r) None) fits
  where
    fits : nat_le (r.0 + r.1) size ≡ true
    fits = grind (arith, nat_tests)

-- what is shown is there
pub shown_is_there : (p : Properties) (found : Option HeldObject) → IsSome (option_map (shown_object p) found) → IsSome found
shown_is_there p None is = is
shown_is_there p (Some o) is = refl

pushed : {X Y : Type 0} (f : X → Y) (b : Bool) (x y : Option X) → option_map f (cond b x y) ≡ cond b (option_map f x) (option_map f y)
pushed f true x y = refl
pushed f false x y = refl

module _ (p : Properties) where
  same_bytes : (found : Option HeldObject) (o : Object) → option_map (shown_object p) found ≡ Some o → o.host_bytes ≡ o.device_bytes
  same_bytes None o is = absurd (cc)
  same_bytes (Some h) o is = let same : shown_object p h ≡ o = cc in subst (λ (o : Object). o.host_bytes ≡ o.device_bytes) same refl

  module _ (objects : FinMap nat_cmp HeldObject) where
    shown-insert : (name : ℕ) (o : HeldObject) → all_shown p (map.insert objects name o) ≡ put (all_shown p objects) name (Some (shown_object p o))
    unfolding put
    shown-insert name o = fun_ext (λ q.
        ap (option_map (shown_object p)) (map.get-insert nat_cmp_total objects name o q ∙ ap (λ b. cond b (Some o) (map.get objects q)) (name_test q name))
        ∙ pushed (shown_object p) _ (Some o) (map.get objects q))

    shown-remove : (name : ℕ) → all_shown p (map.remove objects name) ≡ put (all_shown p objects) name None
    unfolding put
    shown-remove name = fun_ext (λ q.
        ap (option_map (shown_object p)) (map.get-remove nat_cmp_total objects name q ∙ ap (λ b. cond b None (map.get objects q)) (name_test q name))
        ∙ pushed (shown_object p) _ None (map.get objects q))

    pub made_row : (size t flags name : ℕ) (new : FinMap nat_cmp HeldObject) → map.get objects name ≡ None → new ≡ map.insert objects name (new_held_object size t)
        → Row p (all_shown p objects) (Allocated size t flags (Ok name)) (all_shown p new)
    made_row size t flags name new free is = (
      ap (option_map (shown_object p)) free,
      (shown_object p (new_held_object size t), record { of_type = refl; of_size = refl; unmapped = refl }, ap (all_shown p) is ∙ shown-insert name (new_held_object size t)),
    )

    pub release_row : (name : ℕ) (new : FinMap nat_cmp HeldObject) → new ≡ map.remove objects name → Row p (all_shown p objects) (Deallocated name) (all_shown p new)
    release_row name new is = ap (all_shown p) is ∙ shown-remove name

    pub mapped_row : (r : Range) (new : FinMap nat_cmp HeldObject) → HeldWith (all_shown p objects) r.object (IsMappable p r.offset r.size)
        → ChangesHeldObject (held_mapped_as (Some (r.offset, r.size))) objects r.object new → Changes (IsMappedOver r) (all_shown p objects) r.object (all_shown p new)
    mapped_row r new held c =
        let there = ap (option_map (shown_object p)) c.1 in
        let same : held.0 ≡ shown_object p c.0 = let is = held.1 in cc in
        let fits : r.offset + r.size ≤ c.0.size = subst (λ (o : Object). r.offset + r.size ≤ o.size) same held.2.inside in (
          shown_object p c.0,
          there,
          (
            shown_object p (held_mapped_as (Some (r.offset, r.size)) c.0),
            ap (λ m. record (shown_object p c.0) { mapped = m }) (within_is c.0.size (r.offset, r.size) fits),
            ap (all_shown p) c.2 ∙ shown-insert r.object (held_mapped_as (Some (r.offset, r.size)) c.0),
          ),
        )

    pub unmapped_row : (name : ℕ) (new : FinMap nat_cmp HeldObject) → ChangesHeldObject (held_mapped_as None) objects name new → Changes IsUnmapped (all_shown p objects) name (all_shown p new)
    unmapped_row name new c = (
      shown_object p c.0,
      ap (option_map (shown_object p)) c.1,
      (shown_object p (held_mapped_as None c.0), refl, ap (all_shown p) c.2 ∙ shown-insert name (held_mapped_as None c.0)),
    )

    module _ (rs : List Range) (held : AreFlushable p (all_shown p objects) rs) where
      pub flushed_row : InTurn (IsFlushed {E = OutOfMemory} (Ok tt)) rs (all_shown p objects) (all_shown p objects)
      flushed_row =
          calm_in_turn (IsFlushed {E = OutOfMemory} (Ok tt)) (IsFlushable p) (all_shown p objects) (λ r o is. flush_is_calm r o (sym (same_bytes (map.get objects r.object) o is))) rs held

      pub invalidated_row : InTurn (IsInvalidated {E = OutOfMemory} (Ok tt)) rs (all_shown p objects) (all_shown p objects)
      invalidated_row =
          calm_in_turn (IsInvalidated {E = OutOfMemory} (Ok tt)) (IsFlushable p) (all_shown p objects) (λ r o is. invalidate_is_calm r o (same_bytes (map.get objects r.object) o is)) rs held
