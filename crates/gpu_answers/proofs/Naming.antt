-- What steps of the device make of the names of objects.
use Rattle.std.proofs.Common.{◌≡◌, ◌≢◌, ℕ, ◌≤◌, List, [], ◌∷◌, take, Option, Some, None, Ok, Err, inl, inr, option_map, refl, subst, sym, ◌∙◌, ap, arith}
use Rattle.std.proofs.Math.ListN.{drop}
use Rattle.std.proofs.lemmas.List.{take-append-drop}
use Rattle.std.proofs.lemmas.List.Elements.{Contains-append_left, Contains-push_cases}
use Rattle.std.specs.FinMap as map
use Rattle.std.specs.List.{Contains}
use Rattle.gpu_alloc_base.proofs.Names.{is_there, one_or_two}
use Rattle.gpu_alloc_types.specs.Device.{Chain, Changes, Event, InTurn, Object, Range, put}
use Rattle.gpu_alloc_types.specs.Device.Event.{Allocated, Deallocated, Mapped, Unmapped, Flushed, Invalidated, BytesPut, BytesGot}
use Rattle.gpu_alloc_types.specs.Objects.{put-other, put-same}
use Rattle.gpu_alloc_types.specs.Properties.{Properties}
use Rattle.gpu_answers.specs.Device.{IsStep, objects_of, shown_object}
use Rattle.gpu_answers.specs.DeviceState.{DeviceState}
use Rattle.gpu_answers.specs.Held.{HeldState, IsPast, KeepsNames}
use Rattle.gpu_answers.specs.declared.objects.HeldObject.{HeldObject}

-- An object that is not there.

-- a change of another object leaves it so
changes_none : (P : Object → Object → Type 0) (old : ℕ → Option Object) (name : ℕ) (new : ℕ → Option Object) → Changes P old name new
    → (q : ℕ) → old q ≡ None → new q ≡ None
changes_none P old name new c q none = ap (λ (f : ℕ → Option Object). f q) c.2.2 ∙ put-other old name (Some c.2.0) q other ∙ none
  where
    other : q ≢ name
    other same = let here = subst (λ n. old n ≡ None) same none in let there = c.1 in cc

in_turn_none : (P : Range → Object → Object → Type 0) (rs : List Range) (old new : ℕ → Option Object) → InTurn P rs old new
    → (q : ℕ) → old q ≡ None → new q ≡ None
in_turn_none P [] old new same q none = ap (λ (f : ℕ → Option Object). f q) same ∙ none
in_turn_none P (r ∷ rs) old new c q none =
    in_turn_none P rs c.0 new c.2 q (changes_none (P r) old r.object c.0 c.1 q none)

unchanged_none : (old new : ℕ → Option Object) → new ≡ old → (q : ℕ) → old q ≡ None → new q ≡ None
unchanged_none old new same q none = ap (λ (f : ℕ → Option Object). f q) same ∙ none

removed_none : (old : ℕ → Option Object) (name : ℕ) (q : ℕ) → old q ≡ None → put old name None q ≡ None
removed_none old name q none = elim (one_or_two q name) [
  | inl same ↦ subst (λ n. put old name None n ≡ None) (sym same) (put-same old name None)
  | inr other ↦ put-other old name None q other ∙ none
]

unshown : (p : Properties) (found : Option HeldObject) → option_map (shown_object p) found ≡ None → found ≡ None
unshown p None none = refl
unshown p (Some o) none = absurd (cc)

-- Names.

-- they are kept where the latest does not fall, no object gets a past one, and no past one begins to wait
pub names_kept : (old new : HeldState) → old.last_name ≤ new.last_name
    → ((name : ℕ) → name ≤ old.last_name → map.get old.objects name ≡ None → map.get new.objects name ≡ None)
    → ((name : ℕ) → IsPast old name → Contains new.gone name → Contains old.gone name) → KeepsNames old new
names_kept old new rises free waits = record {
  rises = rises;
  past = past;
  spent = λ name s. (past name s.0, λ has. s.1 (waits name s.0 has));
}
  where
    past : (name : ℕ) → IsPast old name → IsPast new name
    past name p = (let below = p.0 in omega (arith, below, rises), free name p.0 p.1)

-- the relation joins
pub names_kept_twice : (old mid new : HeldState) → KeepsNames old mid → KeepsNames mid new → KeepsNames old new
names_kept_twice old mid new first second = record {
  rises = let a = first.rises in let b = second.rises in omega (arith, a, b);
  past = λ name p. second.past name (first.past name p);
  spent = λ name s. second.spent name (first.spent name s);
}

pub names_stay : (s : HeldState) → KeepsNames s s
names_stay s = record { rises = omega arith; past = λ name p. p; spent = λ name s. s }

-- what a step leaves, where the latest name and those that wait stay
same_names : (old new : DeviceState) → new.held.last_name ≡ old.held.last_name → new.held.gone ≡ old.held.gone
    → ((q : ℕ) → objects_of old q ≡ None → objects_of new q ≡ None) → KeepsNames old.held new.held
same_names old new last gone free =
    names_kept old.held new.held (omega (arith, last))
    (λ name below none. unshown new.properties (map.get new.held.objects name) (free name (ap (option_map (shown_object old.properties)) none)))
    (λ name past has. subst (λ xs. Contains xs name) gone has)

pub step_keeps_names : (old : DeviceState) (e : Event) (new : DeviceState) → IsStep old e new → KeepsNames old.held new.held
step_keeps_names old (Allocated size t flags (Ok name)) new s =
    names_kept old.held new.held (let is = s.names.0 in let last = s.names.1 in omega (arith, is, last))
    (λ q below none. unshown new.properties (map.get new.held.objects q)
    (ap (λ (f : ℕ → Option Object). f q) s.row.1.2
    ∙ put-other (objects_of old) name (Some s.row.1.0) q (λ same. let is = s.names.0 in omega (arith, is, same, below))
    ∙ ap (option_map (shown_object old.properties)) none))
    (λ q past has. subst (λ xs. Contains xs q) s.names.2 has)
step_keeps_names old (Allocated size t flags (Err e)) new s = same_names old new s.names.0 s.names.1 (unchanged_none _ _ s.row)
step_keeps_names old (Deallocated name) new s =
    names_kept old.held new.held (let last = s.names.0 in omega (arith, last))
    (λ q below none. unshown new.properties (map.get new.held.objects q)
    (ap (λ (f : ℕ → Option Object). f q) s.row ∙ removed_none (objects_of old) name q (ap (option_map (shown_object old.properties)) none)))
    (λ q past has. elim (Contains-push_cases old.held.gone name q (subst (λ xs. Contains xs q) s.names.1 has)) [
      | inl there ↦ there
      | inr same ↦ absurd (let none = past.1 in let held = is_there _ s.names.2 in let there = subst (λ n. map.get old.held.objects n ≡ Some held.0) same held.1 in cc)
    ])
step_keeps_names old (Mapped r (Ok u)) new s = same_names old new s.names.0 s.names.1 (changes_none _ _ _ _ s.row)
step_keeps_names old (Mapped r (Err e)) new s = same_names old new s.names.0 s.names.1 (unchanged_none _ _ s.row)
step_keeps_names old (Unmapped name) new s = same_names old new s.names.0 s.names.1 (changes_none _ _ _ _ s.row)
step_keeps_names old (Flushed rs answer) new s = same_names old new s.names.0 s.names.1 (in_turn_none _ rs _ _ s.row)
step_keeps_names old (Invalidated rs answer) new s = same_names old new s.names.0 s.names.1 (in_turn_none _ rs _ _ s.row)
step_keeps_names old (BytesPut name offset bytes) new s = same_names old new s.names.0 s.names.1 (changes_none _ _ _ _ s.row)
step_keeps_names old (BytesGot name offset bytes) new s = same_names old new s.names.0 s.names.1 (unchanged_none _ _ s.row.0)

pub run_keeps_names : (old : DeviceState) (es : List Event) (new : DeviceState) → Chain IsStep old es new → KeepsNames old.held new.held
run_keeps_names old [] new same = subst (λ (s : DeviceState). KeepsNames old.held s.held) (sym same) (names_stay old.held)
run_keeps_names old (e ∷ es) new run =
    names_kept_twice old.held run.0.held new.held (step_keeps_names old e run.0 run.1) (run_keeps_names run.0 es new run.2)

-- names are kept by a state with the same objects and the same latest name, where no more wait
pub fewer_wait : (old new : HeldState) → new.objects ≡ old.objects → new.last_name ≡ old.last_name
    → ((name : ℕ) → Contains new.gone name → Contains old.gone name) → KeepsNames old new
fewer_wait old new objects last waits =
    names_kept old new (omega (arith, last)) (λ name below none. ap (λ m. map.get m name) objects ∙ none) (λ name past has. waits name has)

pub first_wait : (count : ℕ) (xs ys : List ℕ) → ys ≡ take count xs → (name : ℕ) → Contains ys name → Contains xs name
first_wait count xs ys is name has =
    subst (λ zs. Contains zs name) (take-append-drop count xs) (Contains-append_left (take count xs) (drop count xs) name (subst (λ zs. Contains zs name) is has))
