-- What a session that ends has given back so far.
use Rattle.std.proofs.Common.{◌≡◌, ◌⊎◌, ◌↔◌, inl, inr, ℕ, ◌+◌, List, [], ◌∷◌, ◌++◌, length, length-append, map, Option, None, is_some, IsSome, refl, sym, ◌∙◌, ap, subst, arith, Contains}
use Rattle.std.proofs.lemmas.List.{map-append}
use Rattle.std.proofs.lemmas.List.Elements.{Contains-append_left, Contains-append_right, Contains-append_cases}
use Rattle.std.specs.Ordering.{nat_cmp}
use Rattle.std.specs.FinMap as finite
use Rattle.gpu_alloc_types.specs.Chains.{chain_append}
use Rattle.gpu_alloc_types.specs.Device.{Event, Object, Chain}
use Rattle.gpu_alloc_types.specs.Device.Event.{Deallocated}
use Rattle.gpu_alloc.specs.Release.{LetsObjectsGo}
use Rattle.gpu_alloc.specs.State.{State, Block, HeldObject}
use Rattle.gpu_alloc_base.proofs.Lists.{contains_cases, contains_head, contains_later, contains_none, none_is_some}
use Rattle.gpu_alloc_base.proofs.Names.{one_or_two}
use Rattle.gpu_session.specs.Sound.{ReturnsAll}

-- a name is in a list, or it is not
among : (names : List ℕ) (name : ℕ) → Contains names name ⊎ (Contains names name → ⊥)
among [] name = inr (λ has. contains_none name has)
among (n ∷ names) name = elim (one_or_two name n) [
  | inl same ↦ inl (subst (Contains (n ∷ names)) (sym same) (contains_head n names))
  | inr other ↦ elim (among names name) [
    | inl later ↦ inl (contains_later n name names later)
    | inr never ↦ inr (λ has. elim (contains_cases n name names has) [ inl same ↦ other same | inr later ↦ never later ])
  ]
]

-- From its first state on, nothing but objects that were held went back, each once, and the others are still held.
pub record HasReturned {D : Type 0} (step : D → Event → D → Type 0) (objects : D → ℕ → Option Object) (first : State) (from : D) (now : State) (to : D) : Type 0 where
  pub gone : List ℕ
  pub chain : Chain step from (map Deallocated gone) to
  pub each : (object : ℕ) → (Contains gone object ⊎ IsSome (finite.get now.held object)) ↔ IsSome (finite.get first.held object)
  pub once : length gone + finite.len now.held ≡ finite.len first.held
  pub absent : (object : ℕ) → Contains gone object → objects to object ≡ None
  pub others : (object : ℕ) → finite.get first.held object ≡ None → objects to object ≡ objects from object

module _ {D : Type 0} (step : D → Event → D → Type 0) (objects : D → ℕ → Option Object) where
  pub none_returned : (s : State) (d : D) → HasReturned step objects s d s d
  none_returned s d = record {
    gone = [];
    chain = refl;
    each = λ object. (λ h. elim h [ inl has ↦ absurd (contains_none object has) | inr there ↦ there ], λ there. inr there);
    once = omega arith;
    absent = λ object has. absurd (contains_none object has);
    others = λ object none. refl;
  }

module _ {D : Type 0} {step : D → Event → D → Type 0} {objects : D → ℕ → Option Object} {first : State} {from : D} {now : State} {to : D} {new : State} {next : D}
    (done : HasReturned step objects first from now to) (back : LetsObjectsGo step objects now to new next) where
  abbrev gone_now : List ℕ
  gone_now = done.gone ++ back.gone

  each_then : (object : ℕ) → Contains gone_now object ⊎ IsSome (finite.get new.held object) → IsSome (finite.get first.held object)
  each_then object (inl has) = elim (Contains-append_cases done.gone back.gone object has) [
    | inl before ↦ (done.each object).0 (inl before)
    | inr last ↦ (done.each object).0 (inr (back.held object last))
  ]
  each_then object (inr there) = (done.each object).0 (inr (elim (among back.gone object) [
    | inl last ↦ back.held object last
    | inr stays ↦ ap is_some (sym (back.others object stays)) ∙ there
  ]))

  each_back : (object : ℕ) → IsSome (finite.get first.held object) → Contains gone_now object ⊎ IsSome (finite.get new.held object)
  each_back object held = elim ((done.each object).1 held) [
    | inl before ↦ inl (Contains-append_left done.gone back.gone object before)
    | inr there ↦ elim (among back.gone object) [
      | inl last ↦ inl (Contains-append_right done.gone back.gone object last)
      | inr stays ↦ inr (ap is_some (back.others object stays) ∙ there)
    ]
  ]

  absent_now : (object : ℕ) → Contains gone_now object → objects next object ≡ None
  absent_now object has = elim (among back.gone object) [
    | inl last ↦ back.absent object last
    | inr stays ↦ back.stay object stays ∙ elim (Contains-append_cases done.gone back.gone object has) [
      | inl before ↦ done.absent object before
      | inr last ↦ absurd (stays last)
    ]
  ]

  others_now : (object : ℕ) → finite.get first.held object ≡ None → objects next object ≡ objects from object
  others_now object none =
      let stays : Contains back.gone object → ⊥ = λ last. none_is_some _ none ((done.each object).0 (inr (back.held object last))) in
      back.stay object stays ∙ done.others object none

  -- what one more call gives back
  pub more_returned : HasReturned step objects first from new next
  more_returned = record {
    gone = gone_now;
    chain = rw (map-append Deallocated done.gone back.gone) (chain_append step (map Deallocated done.gone) (map Deallocated back.gone) from to next done.chain back.asked);
    each = λ object. (each_then object, each_back object);
    once =
        let so_far = done.once in
        let last = back.once in
        omega (arith, length-append done.gone back.gone);
    absent = absent_now;
    others = others_now;
  }

-- Once nothing is held, all of it has gone back.
module _ {D : Type 0} {step : D → Event → D → Type 0} {objects : D → ℕ → Option Object} {first : State} {from : D} {now : State} {to : D} (done : HasReturned step objects first from now to)
    (empty : now.held ≡ finite.empty) where
  none_left : (object : ℕ) → finite.get now.held object ≡ None
  none_left object = ap (λ (m : finite.FinMap nat_cmp HeldObject). finite.get m object) empty ∙ finite.get-empty nat_cmp object

  all_gone : (object : ℕ) → IsSome (finite.get first.held object) → Contains done.gone object
  all_gone object held = elim ((done.each object).1 held) [ inl has ↦ has | inr there ↦ absurd (none_is_some _ (none_left object) there) ]

  pub all_returned : {blocks : finite.FinMap nat_cmp Block} → ReturnsAll (record { allocator = first; blocks = blocks }) (map Deallocated done.gone)
  all_returned = record {
    gone = done.gone;
    asked = refl;
    each = λ object. (λ has. (done.each object).0 (inl has), all_gone object);
    once =
        let none = ap (λ (m : finite.FinMap nat_cmp HeldObject). finite.len m) empty ∙ finite.len-empty nat_cmp HeldObject in
        let so_far = done.once in
        omega arith;
  }

  pub all_absent : (object : ℕ) → IsSome (finite.get first.held object) → objects to object ≡ None
  all_absent object held = done.absent object (all_gone object held)
