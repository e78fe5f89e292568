-- What goes back to the device with a return or a cleanup.
use Rattle.std.proofs.Common.{◌≡◌, inl, inr, ℕ, ◌+◌, List, length, map, Option, Some, None, is_some, ◌∙◌, ap, arith, Contains}
use Rattle.std.specs.FinMap as finite
use Rattle.gpu_alloc_types.specs.Device.{Event, Object, Chain}
use Rattle.gpu_alloc_types.specs.Device.Event.{Deallocated}
use Rattle.gpu_alloc_base.proofs.Names.{absent_or_there}
use Rattle.gpu_alloc_block.specs.State.{Block, HeldObject, State, IsOwned, total}
use Rattle.gpu_alloc.specs.Release.{Cleans, Frees, LetsObjectsGo, ObjectsCleaned, ObjectsFreed, without_all, without_objects, without_span}
use Rattle.gpu_alloc.proofs.Changes.{all_held, all_same, goes_held, goes_same, gone_or_kept, objects_gone, objects_stay}
use Rattle.gpu_alloc.proofs.GoneObjects.{kept_was}
use Rattle.gpu_alloc.proofs.Ledgers.{Held}

-- these objects are held no more
none_held : (held : Held) (gone : List ℕ) (object : ℕ) → Contains gone object → finite.get (without_all held gone) object ≡ None
none_held held gone object has = elim (absent_or_there (finite.get (without_all held gone) object)) [
  | inl absent ↦ absent
  | inr there ↦ absurd ((kept_was held gone object there.0 there.1).0 has)
]

-- every other one is held as before
held_before : (held : Held) (gone : List ℕ) (object : ℕ) → (Contains gone object → ⊥) → finite.get (without_all held gone) object ≡ finite.get held object
held_before held gone object stays = elim (gone_or_kept held gone object) [ inl has ↦ absurd (stays has) | inr kept ↦ kept ]

module _ {D : Type 0} (step : D → Event → D → Type 0) (objects : D → ℕ → Option Object) (s new : State) (from to : D) (whole : total new ≡ total s) where
  -- objects that were held, of which what the device has left is listed in some order of its own
  goes_back : (gone told : List ℕ) → Chain step from (map Deallocated gone) to → ((object : ℕ) → Contains gone object → (h : HeldObject) × (finite.get s.held object ≡ Some h)) → new.held ≡ without_all s.held gone
      → new.remaining ≡ s.remaining + length gone → ((object : ℕ) → Contains gone object → Contains told object) → ((object : ℕ) → Contains told object → Contains gone object) → objects to ≡ without_objects (objects from) told
      → LetsObjectsGo step objects s from new to
  goes_back gone told asked were_held held more all only left = record {
    gone = gone;
    asked = asked;
    held = λ object has. ap is_some (were_held object has).1;
    unheld = λ object has. ap (λ (m : Held). finite.get m object) held ∙ none_held s.held gone object has;
    others = λ object stays. ap (λ (m : Held). finite.get m object) held ∙ held_before s.held gone object stays;
    once = omega (arith, whole, more);
    absent = λ object has. ap (λ f. f object) left ∙ objects_gone (objects from) told object (inl (all object has));
    stay = λ object stays. ap (λ f. f object) left ∙ objects_stay (objects from) told object (λ has. stays (only object has));
  }

  module _ (es : List Event) (asked : Chain step from es to) where
    pub return_goes_back : (b : Block) → IsOwned s b → Frees s b es new → ObjectsFreed s b (objects from) (objects to) → LetsObjectsGo step objects s from new to
    return_goes_back b owned frees left =
        let rest : State = without_span s b in
        goes_back frees.0 left.0 (rw frees.2.0 at asked) (goes_held b.kind rest b.object frees.0 (owned.held.0, owned.held.1) frees.1) (ap (λ (t : State). t.held) frees.2.1) (ap (λ (t : State). t.remaining) frees.2.1)
        (goes_same b.kind rest b.object frees.0 left.0 frees.1 left.1) (goes_same b.kind rest b.object left.0 frees.0 left.1 frees.1) left.2

    pub cleanup_goes_back : Cleans s es new → ObjectsCleaned s (objects from) (objects to) → LetsObjectsGo step objects s from new to
    cleanup_goes_back cleans left =
        let types = length (s.properties).memory_types in
        goes_back cleans.0 left.0 (rw cleans.2.0 at asked) (all_held s types cleans.0 cleans.1) (ap (λ (t : State). t.held) cleans.2.1) (ap (λ (t : State). t.remaining) cleans.2.1)
        (all_same s types cleans.0 left.0 cleans.1 left.1) (all_same s types left.0 cleans.0 left.1 cleans.1) left.2
