-- What the calls make of objects that are kept is kept.
use Rattle.std.proofs.Common.{◌≡◌, ◌≢◌, ◌⊎◌, ℕ, ◌+◌, ◌-◌, ◌^◌, ◌<◌, ◌≤◌, Some, None, Bool, true, false, List, All, [], ◌∷◌, ◌++◌, take, Option, cond, ap, inl, inr, nat_eq, nat_lt, refl, subst, sym, ◌∙◌, arith}
use Rattle.std.proofs.lemmas.Bool.Decides.{nat_tests}
use Rattle.std.proofs.lemmas.Cmp.{nat_eq_equiv}
use Rattle.std.proofs.lemmas.List.Elements.{All-nil, All-pop, All-push, All-take, All-weaker}
use Rattle.std.proofs.lemmas.List.Sorted.{IsPermutation-to_front}
use Rattle.std.proofs.lemmas.Map.Keys.{IsDistinct-IsPermutation, IsDistinct-tail}
use Rattle.std.specs.List.{Contains, IsDistinct}
use Rattle.std.specs.Option.{is_some, IsSome, IfSome, option_to_list}
use Rattle.std.specs.Cmp.{nat_cmp_total}
use Rattle.std.specs.FinMap as map
use Rattle.std.specs.FinMap.{FinMap, nat_cmp-IsAntisymmetric}
use Rattle.std.specs.Ordering.{nat_cmp, eq_by_cmp}
use Rattle.indexmap.proofs.MapLemmas.{distinct-take}
use Rattle.gpu_alloc_base.proofs.Lists.{all_contained, distinct_push, head_is_other}
use Rattle.gpu_alloc_base.proofs.Names.{is_there, one_or_two, get_put-other, get_removed, get_removed-other, len_put, len_removed}
use Rattle.gpu_answers.specs.Held.{HeldState, AreNamesKept, ChangesHeldObject, IsUsed, room_for_objects}
use Rattle.gpu_answers.specs.declared.objects.HeldObject.{HeldObject}

other_name : (a b : ℕ) → a ≢ b → nat_eq a b ≡ false
other_name a b ne = grind (arith, nat_tests)

less_or_not : (a b : ℕ) → (a < b) ⊎ (b ≤ a)
less_or_not a b = elim (nat_lt a b) as (λ t. nat_lt a b ≡ t → (a < b) ⊎ (b ≤ a)) [ true ↦ λ e. inl (less e) | false ↦ λ e. inr (not_less e) ] refl
  where
    less : nat_lt a b ≡ true → a < b
    less e = grind (arith, nat_tests)

    not_less : nat_lt a b ≡ false → b ≤ a
    not_less e = grind (arith, nat_tests)

-- Names that were given back, each once.

-- the last one stands nowhere else
last_is_other : (xs : List ℕ) (name : ℕ) → IsDistinct nat_eq (xs ++ name ∷ []) → IsDistinct nat_eq xs × (Contains xs name → ⊥)
last_is_other xs name once =
    let moved = IsDistinct-IsPermutation nat_eq nat_eq_equiv.symm (xs ++ name ∷ []) (name ∷ xs) (IsPermutation-to_front xs name) once in (
      IsDistinct-tail nat_eq name xs moved,
      λ has. absurd (let other = head_is_other nat_eq name name xs moved has in let same = nat_eq_equiv.refl name in cc),
    )

-- the first ones
distinct_first : (count : ℕ) (xs : List ℕ) → IsDistinct nat_eq xs → IsDistinct nat_eq (take count xs)
distinct_first count xs once = distinct-take nat_eq_equiv count xs once

pub kept-none : (places : ℕ) → AreNamesKept 0 [] 0 places map.empty
unfolding IsDistinct
kept-none places = record {
  named = λ name above. map.get-empty nat_cmp name;
  used = All-nil (IsUsed 0 map.empty);
  once = tt;
  names_fit = let none = map.len-empty nat_cmp HeldObject in omega (arith, none);
}

-- an object in the place of another has as many beside it
len_changed : (objects : FinMap nat_cmp HeldObject) (name : ℕ) (o there : HeldObject) → map.get objects name ≡ Some there
    → map.len (map.insert objects name o) ≡ map.len objects
len_changed objects name o there is =
    map.len-insert nat_cmp_total objects name o ∙ ap (λ found. cond (is_some found) (map.len objects) (map.len objects + 1)) is

module _ (last : ℕ) (gone : List ℕ) (taken places : ℕ) (objects : FinMap nat_cmp HeldObject) (kept : AreNamesKept last gone taken places objects) where
  -- the next name is free
  pub next_free : map.get objects (last + 1) ≡ None
  next_free = kept.named (last + 1) (omega arith)

  pub kept-held : (o : HeldObject) → taken + map.len objects < places → AreNamesKept (last + 1) gone taken places (map.insert objects (last + 1) o)
  kept-held o fits = record {
    used = All-weaker (IsUsed last objects) (IsUsed (last + 1) (map.insert objects (last + 1) o))
        (λ q old. let below = old.0 in (omega (arith, below), get_put-other objects (last + 1) o q (omega (arith, below)) ∙ old.1)) gone kept.used;
    once = kept.once;
    named = λ q above. get_put-other objects (last + 1) o q (omega (arith, above)) ∙ kept.named q (omega (arith, above));
    names_fit = let more = len_put objects (last + 1) o next_free in omega (arith, fits, more);
  }

  -- the name of a held object is not among those that were given back
  held_is_other : (name q : ℕ) (there : HeldObject) → map.get objects name ≡ Some there → IsUsed last objects q → q ≢ name
  held_is_other name q there is used same = let none = subst (λ n. map.get objects n ≡ None) same used.1 in cc

  held_is_named : (name : ℕ) (there : HeldObject) → map.get objects name ≡ Some there → name ≤ last
  held_is_named name there is = elim (less_or_not last name) [ inl above ↦ absurd (let none = kept.named name above in cc) | inr below ↦ below ]

  pub kept-release : (name : ℕ) (there : HeldObject) → map.get objects name ≡ Some there → AreNamesKept last (gone ++ name ∷ []) (taken + 1) places (map.remove objects name)
  kept-release name there is = record {
    used = All-push (IsUsed last (map.remove objects name)) gone name
        (All-weaker (IsUsed last objects) (IsUsed last (map.remove objects name)) (λ q old. (old.0, get_removed-other objects name q (held_is_other name q there is old) ∙ old.1)) gone kept.used)
        (held_is_named name there is, get_removed objects name);
    once = distinct_push nat_eq nat_eq_equiv.symm gone name kept.once
        (λ q has. other_name name q (λ same. held_is_other name q there is (all_contained (IsUsed last objects) gone q kept.used has) (sym same)));
    named = λ q above. elim (one_or_two q name) [
      | inl same ↦ subst (λ n. map.get (map.remove objects name) n ≡ None) (sym same) (get_removed objects name)
      | inr other ↦ get_removed-other objects name q other ∙ kept.named q above
    ];
    names_fit = let less = len_removed objects name there is in let fits = kept.names_fit in omega (arith, fits, less);
  }

  pub kept-changed : (f : HeldObject → HeldObject) (name : ℕ) (new : FinMap nat_cmp HeldObject) → ChangesHeldObject f objects name new → AreNamesKept last gone taken places new
  kept-changed f name new c = subst (AreNamesKept last gone taken places) (sym c.2) (record {
    used = All-weaker (IsUsed last objects) (IsUsed last (map.insert objects name (f c.0)))
        (λ q old. (old.0, get_put-other objects name (f c.0) q (held_is_other name q c.0 c.1 old) ∙ old.1)) gone kept.used;
    once = kept.once;
    named = λ q above. elim (one_or_two q name) [
      | inl same ↦ absurd (let none = subst (λ n. map.get objects n ≡ None) same (kept.named q above) in let there = c.1 in cc)
      | inr other ↦ get_put-other objects name (f c.0) q other ∙ kept.named q above
    ];
    names_fit = let same = len_changed objects name (f c.0) c.0 c.1 in let fits = kept.names_fit in omega (arith, fits, same);
  })

  -- the first names alone stay
  pub kept-first : (count left : ℕ) → left ≤ taken → AreNamesKept last (take count gone) left places objects
  kept-first count left less = record {
    named = kept.named;
    used = All-take (IsUsed last objects) count gone kept.used;
    once = distinct_first count gone kept.once;
    names_fit = let fits = kept.names_fit in omega (arith, fits, less);
  }

-- a name that is taken waits no longer
pub taken_is_spent : (last : ℕ) (objects : FinMap nat_cmp HeldObject) (old new : List ℕ) (taken : Option ℕ) → All (IsUsed last objects) old
    → IsDistinct nat_eq old → old ≡ new ++ option_to_list taken → IfSome taken (λ name. IsUsed last objects name × (Contains new name → ⊥))
taken_is_spent last objects old new None used once is = tt
taken_is_spent last objects old new (Some name) used once is = (
  (All-pop (IsUsed last objects) old new (Some name) is used).1,
  (last_is_other new name (subst (IsDistinct nat_eq) is once)).1,
)

-- where one more object fits in, so does its name
pub room_is : (entries last taken places : ℕ) (objects : FinMap nat_cmp HeldObject) → 0 < room_for_objects entries last taken places objects
    → taken + map.len objects < places
room_is entries last taken places objects room = omega (arith, room)

-- room for an entry, for all names and for one more, and a name
pub room_for_one : (entries last taken places : ℕ) (objects : FinMap nat_cmp HeldObject) (count : ℕ) → 0 < entries → last < 2 ^ 64 → (last ≡ 2 ^ 64 - 1 → ⊥)
    → map.len objects < count → taken + count ≤ places → 0 < room_for_objects entries last taken places objects
room_for_one entries last taken places objects count entry fits name few names = omega (arith, entry, fits, name, few, names)

-- an object that is held of equal states
pub held_in : (s t : HeldState) (name : ℕ) → s ≡ t → IsSome (map.get t.objects name) → (o : HeldObject) × (map.get s.objects name ≡ Some o)
held_in s t name same held = let there = is_there _ held in (there.0, ap (λ (u : HeldState). map.get u.objects name) same ∙ there.1)

-- an object that is taken off and comes back changed
pub changed_by : (f : HeldObject → HeldObject) (old taken new : FinMap nat_cmp HeldObject) (name : ℕ) (o : HeldObject) → map.get old name ≡ Some o
    → taken ≡ map.remove old name → new ≡ map.insert taken name (f o) → ChangesHeldObject f old name new
changed_by f old taken new name o there off on = (o, there, on ∙ ap (λ m. map.insert m name (f o)) off ∙ put_back)
  where
    put_back : map.insert (map.remove old name) name (f o) ≡ map.insert old name (f o)
    put_back = map.same_map nat_cmp_total nat_cmp-IsAntisymmetric _ _ (λ q.
        map.get-insert nat_cmp_total (map.remove old name) name (f o) q ∙ found q (eq_by_cmp nat_cmp q name) refl ∙ sym (map.get-insert nat_cmp_total old name (f o) q))
      where
        found : (q : ℕ) (b : Bool) → eq_by_cmp nat_cmp q name ≡ b → cond b (Some (f o)) (map.get (map.remove old name) q) ≡ cond b (Some (f o)) (map.get old q)
        found q true e = refl
        found q false e = map.get-remove nat_cmp_total old name q ∙ ap (λ b. cond b None (map.get old q)) e

pub changed_in : (f : HeldObject → HeldObject) (s t : HeldState) (name : ℕ) (new : FinMap nat_cmp HeldObject) → s ≡ t → ChangesHeldObject f s.objects name new → ChangesHeldObject f t.objects name new
changed_in f s t name new same c = subst (λ (u : HeldState). ChangesHeldObject f u.objects name new) same c
