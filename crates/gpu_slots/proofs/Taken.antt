-- What is found where a value is put in or taken out, and what is left where the last place is taken away.
use Rattle.std.proofs.Common.{◌≡◌, inl, inr, ℕ, ◌+◌, ◌*◌, ◌^◌, ◌<◌, ◌≤◌, ◌==◌, cond, List, [], ◌∷◌, ◌++◌, length, Option, Some, None, refl, sym, ◌∙◌, ap, subst, arith, length-append}
use Rattle.std.proofs.lemmas.List.{get_or_past}
use Rattle.std.specs.FinMap as finite
use Rattle.std.specs.Cmp.{nat_cmp_total}
use Rattle.std.specs.Option.{IsSome, IfSome}
use Rattle.std.specs.Ordering.{nat_cmp}
use Rattle.gpu_slots.specs.declared.slot_map.Place.{Place}
use Rattle.gpu_slots.specs.Places.{live_in, place_at}
use Rattle.gpu_slots.specs.SlotMap.{SlotState, IsGiven, HasNoValues, PutsAt, TakesAt}
use Rattle.gpu_slots.proofs.Lookups.{Changes, changes_push, live_put, live_out, get_none, remove_none, same, other, key_test, no_value}
use Rattle.gpu_slots.proofs.Sound.{len_put, len_out}

module _ {T : Type 0} (old new : finite.FinMap nat_cmp T) (key : ℕ) (value : T) where
  pub puts_at : finite.get old key ≡ None → new ≡ finite.insert old key value → PutsAt old key value new
  puts_at none is = rw is (record {
    free = none;
    there = get key ∙ ap (λ t. cond t (Some value) (finite.get old key)) (same key key refl);
    others = λ q ne. get q ∙ ap (λ t. cond t (Some value) (finite.get old q)) (other q key ne);
    count = len_put old key value none;
  })
    where
      get : (q : ℕ) → finite.get (finite.insert old key value) q ≡ cond (q == key) (Some value) (finite.get old q)
      get q = finite.get-insert nat_cmp_total old key value q ∙ ap (λ t. cond t (Some value) (finite.get old q)) (key_test q key)

  pub takes_at : finite.get old key ≡ Some value → new ≡ finite.remove old key → TakesAt old key value new
  takes_at some is = rw is (record {
    taken = some;
    gone = get key ∙ ap (λ t. cond t None (finite.get old key)) (same key key refl);
    others = λ q ne. get q ∙ ap (λ t. cond t None (finite.get old q)) (other q key ne);
    count = len_out old key (subst IsSome (sym some) refl);
  })
    where
      get : (q : ℕ) → finite.get (finite.remove old key) q ≡ cond (q == key) None (finite.get old q)
      get q = finite.get-remove nat_cmp_total old key q ∙ ap (λ t. cond t None (finite.get old q)) (key_test q key)

-- what was taken out, if anything was
pub takes_if : {T : Type 0} (old new : finite.FinMap nat_cmp T) (key : ℕ) (value : Option T) → value ≡ finite.get old key → new ≡ finite.remove old key
    → IfSome value (λ v. TakesAt old key v new)
takes_if old new key None e is = tt
takes_if old new key (Some v) e is = takes_at old new key v (sym e) is

-- a key that was not given has no value
pub free_key : {T : Type 0} (s : SlotState T) (key : ℕ) → (IsGiven s key → ⊥) → finite.get s.live key ≡ None
free_key {T} s key new = by (finite.get s.live key) refl
  where
    by : (found : Option T) → finite.get s.live key ≡ found → finite.get s.live key ≡ None
    by None is = is
    by (Some v) is = absurd (new (inr (subst IsSome (sym is) refl)))

-- at first no key has a value, and none was given
pub has_none : {T : Type 0} (live : finite.FinMap nat_cmp T) → live ≡ finite.empty → HasNoValues live
has_none {T} live is = rw is (record { none = finite.get-empty nat_cmp; count = finite.len-empty nat_cmp T })

pub none_given : {T : Type 0} (s : SlotState T) → s.live ≡ finite.empty → s.generations ≡ [] → (key : ℕ) → IsGiven s key → ⊥
none_given s is unspent key (inl spent) = let below = rw unspent at spent.1 in omega (arith, below)
none_given s is unspent key (inr live) = no_value (finite.get s.live key) (ap (λ m. finite.get m key) is ∙ finite.get-empty nat_cmp key) live

module _ {T : Type 0} (old new : List (Place T)) (p : Place T) (is : old ≡ new ++ p ∷ []) (few : length old ≤ 2 ^ 32) where
  longer : length old ≡ length new + 1
  longer = ap length is ∙ length-append new (p ∷ [])

  few_new : length new ≤ 2 ^ 32
  few_new = omega (arith, longer, few)

  fits : length new < 2 ^ 32
  fits = omega (arith, longer, few)

  past : place_at new (length new) ≡ record { generation = 0; value = None }
  past = get_or_past new (length new) _ (omega arith)

  empty : (place_at new (length new)).value ≡ None
  empty = ap (λ (q : Place T). q.value) past

  changes : (value : Option T) → p.value ≡ value → Changes new old (length new) (record { generation = p.generation; value = value })
  changes value e = changes_push new old _ (is ∙ ap (λ v. new ++ record { generation = p.generation; value = v } ∷ []) e)

  -- it had no value
  pub none_left : p.value ≡ None → live_in new ≡ live_in old
  none_left e =
      remove_none (live_in new) _ (get_none new old (length new) 0 few_new few fits empty)
      ∙ sym (live_out new old (length new) 0 few_new few fits p.generation (changes None e) (ap (λ (q : Place T). q.generation) past))

  -- it had one
  pub one_taken : (value : T) → p.value ≡ Some value → (key : ℕ) × TakesAt (live_in old) key value (live_in new)
  one_taken value e =
      let c = changes (Some value) e in
      let key = p.generation * 2 ^ 32 + length new in
      let none = get_none new old (length new) p.generation few_new few fits empty in
      let put = puts_at (live_in new) (live_in old) key value none (live_put new old (length new) p.generation few_new few fits value c empty) in
      (key, record { taken = put.there; gone = none; others = λ q ne. sym (put.others q ne); count = sym put.count })

-- where no place is left, no value is left
pub none_at_all : {T : Type 0} (places : List (Place T)) → length places ≡ 0 → finite.len (live_in places) ≡ 0
none_at_all {T} [] e = finite.len-empty nat_cmp T
none_at_all (p ∷ ps) e = absurd (omega arith)
