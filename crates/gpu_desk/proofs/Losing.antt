-- What calls lose of the objects and of the names that wait: nothing but what they read.
use Rattle.std.proofs.Common.{◌≡◌, ◌⊎◌, ℕ, List, [], ◌∷◌, ◌++◌, Option, Some, None, Ok, Err, inl, inr, refl, sym, ◌∙◌, ap, subst}
use Rattle.std.proofs.lemmas.List.Elements.{Contains-append_cases, Contains-append_left, Contains-append_right, Contains-push}
use Rattle.std.specs.List.{Contains}
use Rattle.std.specs.Option.{IfSome, IsSome}
use Rattle.gpu_alloc_base.proofs.Names.{one_or_two}
use Rattle.gpu_alloc_types.specs.Device.{Chain, Changes, Event, InTurn, Object, Range, put}
use Rattle.gpu_alloc_types.specs.Device.Event.{Allocated, Deallocated, Mapped, Unmapped, Flushed, Invalidated, BytesPut, BytesGot}
use Rattle.gpu_alloc_types.specs.Objects.{put-other, put-same}
use Rattle.gpu_alloc_types.specs.Properties.{Properties}
use Rattle.gpu_alloc.specs.Allocation.{IsAsCounted}
use Rattle.gpu_alloc.specs.NewObject.{ObjectsGiven}
use Rattle.gpu_alloc.specs.State.{HeldObject}
use Rattle.gpu_answers.specs.Device.{IsStep, objects_of}
use Rattle.gpu_answers.specs.DeviceState.{DeviceState}
use Rattle.gpu_answers.specs.Held.{HeldState, KeepsNames}
use Rattle.gpu_answers.proofs.Naming.{fewer_wait}
use Rattle.gpu_desk.specs.Desk.{DeskState, objects}
use Rattle.gpu_desk.specs.Names.{FollowsReading, LosesBut, Waits, as_read, last_after, read_in}
use Rattle.gpu_desk.proofs.Kept.{same_objects}

-- Objects that stay.

-- an object stays where one is put
some_after_put : (old : ℕ → Option Object) (name : ℕ) (o : Object) (q : ℕ) → IsSome (old q) → IsSome (put old name (Some o) q)
some_after_put old name o q some = elim (one_or_two q name) [
  | inl same ↦ subst (λ n. IsSome (put old name (Some o) n)) (sym same) (subst IsSome (sym (put-same old name (Some o))) refl)
  | inr other ↦ subst IsSome (sym (put-other old name (Some o) q other)) some
]

-- and where one changes, or several in turn
some_after_change : (P : Object → Object → Type 0) (old : ℕ → Option Object) (name : ℕ) (new : ℕ → Option Object) → Changes P old name new
    → (q : ℕ) → IsSome (old q) → IsSome (new q)
some_after_change P old name new c q some =
    subst (λ (f : ℕ → Option Object). IsSome (f q)) (sym c.2.2) (some_after_put old name c.2.0 q some)

some_in_turn : (P : Range → Object → Object → Type 0) (rs : List Range) (old new : ℕ → Option Object) → InTurn P rs old new
    → (q : ℕ) → IsSome (old q) → IsSome (new q)
some_in_turn P [] old new same q some = subst (λ (f : ℕ → Option Object). IsSome (f q)) (sym same) some
some_in_turn P (r ∷ rs) old new c q some =
    some_in_turn P rs c.0 new c.2 q (some_after_change (P r) old r.object c.0 c.1 q some)

-- nothing goes where an allocation gives a block its object
pub given_stay : (p : Properties) (before after : Option HeldObject) (name : ℕ) (f g : ℕ → Option Object) → ObjectsGiven (IsAsCounted p) before after name f g
    → (q : ℕ) → IsSome (f q) → IsSome (g q)
given_stay p None after name f g more q some =
    subst (λ (h : ℕ → Option Object). IsSome (h q)) (sym more.now) (some_after_put f name more.made q some)
given_stay p (Some h) after name f g same q some = subst (λ (h : ℕ → Option Object). IsSome (h q)) (sym same) some

-- Steps of the device.

-- no object and no waiting name is lost
pub record LosesNone (old new : DeviceState) : Type 0 where
  pub held : (q : ℕ) → IsSome (objects_of old q) → IsSome (objects_of new q) ⊎ Contains new.held.gone q
  pub waits : (q : ℕ) → Contains old.held.gone q → Contains new.held.gone q

-- what a step does that releases nothing
stays : (old new : DeviceState) → new.held.gone ≡ old.held.gone
    → ((q : ℕ) → IsSome (objects_of old q) → IsSome (objects_of new q)) → LosesNone old new
stays old new gone some = record {
  held = λ q is. inl (some q is);
  waits = λ q has. subst (λ xs. Contains xs q) (sym gone) has;
}

pub same_stays : (f g : ℕ → Option Object) → g ≡ f → (q : ℕ) → IsSome (f q) → IsSome (g q)
same_stays f g same q some = subst (λ (h : ℕ → Option Object). IsSome (h q)) (sym same) some

step_loses_none : (old : DeviceState) (e : Event) (new : DeviceState) → IsStep old e new → LosesNone old new
step_loses_none old (Allocated size t flags (Ok name)) new s =
    stays old new s.names.2 (λ q some. subst (λ (f : ℕ → Option Object). IsSome (f q)) (sym s.row.1.2) (some_after_put (objects_of old) name s.row.1.0 q some))
step_loses_none old (Allocated size t flags (Err e)) new s = stays old new s.names.1 (same_stays _ _ s.row)
step_loses_none old (Deallocated name) new s = record { held = held; waits = waits }
  where
    held : (q : ℕ) → IsSome (objects_of old q) → IsSome (objects_of new q) ⊎ Contains new.held.gone q
    held q some = elim (one_or_two q name) [
      | inl same ↦ inr (subst (λ xs. Contains xs q) (sym s.names.1) (subst (λ n. Contains (old.held.gone ++ n ∷ []) q) same (Contains-push old.held.gone q)))
      | inr other ↦ inl (subst (λ (f : ℕ → Option Object). IsSome (f q)) (sym s.row) (subst IsSome (sym (put-other (objects_of old) name None q other)) some))
    ]

    waits : (q : ℕ) → Contains old.held.gone q → Contains new.held.gone q
    waits q has = subst (λ xs. Contains xs q) (sym s.names.1) (Contains-append_left old.held.gone (name ∷ []) q has)
step_loses_none old (Mapped r (Ok u)) new s = stays old new s.names.1 (some_after_change _ _ _ _ s.row)
step_loses_none old (Mapped r (Err e)) new s = stays old new s.names.1 (same_stays _ _ s.row)
step_loses_none old (Unmapped name) new s = stays old new s.names.1 (some_after_change _ _ _ _ s.row)
step_loses_none old (Flushed rs answer) new s = stays old new s.names.1 (some_in_turn _ rs _ _ s.row)
step_loses_none old (Invalidated rs answer) new s = stays old new s.names.1 (some_in_turn _ rs _ _ s.row)
step_loses_none old (BytesPut name offset bytes) new s = stays old new s.names.1 (some_after_change _ _ _ _ s.row)
step_loses_none old (BytesGot name offset bytes) new s = stays old new s.names.1 (same_stays _ _ s.row.0)

loses_none_twice : (old mid new : DeviceState) → LosesNone old mid → LosesNone mid new → LosesNone old new
loses_none_twice old mid new first second = record {
  held = λ q some. elim (first.held q some) [ inl there ↦ second.held q there | inr has ↦ inr (second.waits q has) ];
  waits = λ q has. second.waits q (first.waits q has);
}

run_loses_none : (old : DeviceState) (es : List Event) (new : DeviceState) → Chain IsStep old es new → LosesNone old new
run_loses_none old [] new same = subst (LosesNone old) (sym same) (stays old old refl (λ q some. some))
run_loses_none old (e ∷ es) new run =
    loses_none_twice old run.0 new (step_loses_none old e run.0 run.1) (run_loses_none run.0 es new run.2)

-- Calls of a desk.

-- a call loses nothing whose run does not
pub by_run : (old new : DeskState) (es : List Event) → Chain IsStep old.device es new.device → LosesBut [] old new
by_run old new es run = let none = run_loses_none old.device es new.device run in record { held = none.held; waits = λ q has. inl (none.waits q has) }

-- nor one after which the same names wait, and each object is held
pub all_stay : (old new : DeskState) → ((q : ℕ) → IsSome (objects old q) → IsSome (objects new q)) → new.device.held.gone ≡ old.device.held.gone
    → LosesBut [] old new
all_stay old new some gone = record { held = λ q is. inl (some q is); waits = λ q has. inl (subst (λ xs. Contains xs q) (sym gone) has) }

-- nor one whose run was begun from the state before and does not
pub by_begun_run : (old new : DeskState) (begun : DeviceState) (es : List Event) → begun.properties ≡ old.device.properties → begun.held ≡ old.device.held
    → Chain IsStep begun es new.device → LosesBut [] old new
by_begun_run old new begun es offers holds run = record {
  held = λ q some. none.held q (same_stays (objects_of old.device) (objects_of begun) (same_objects old.device begun offers (ap (λ (h : HeldState). h.objects) holds)) q some);
  waits = λ q has. inl (none.waits q (subst (λ xs. Contains xs q) (ap (λ (h : HeldState). h.gone) (sym holds)) has));
}
  where
    none : LosesNone begun new.device
    none = run_loses_none begun es new.device run

-- nor one after which nothing changed
pub as_before : (old new : DeskState) → objects new ≡ objects old → new.device.held.gone ≡ old.device.held.gone → LosesBut [] old new
as_before old new same gone = all_stay old new (same_stays (objects old) (objects new) same) gone

pub same_device : (old new : DeskState) → new.device ≡ old.device → LosesBut [] old new
same_device old new same = by_run old new [] same

-- nor one that reads a name, but for that name
pub reading : (old new : DeskState) (read : Option ℕ) → objects new ≡ objects old
    → IfSome read (λ name. old.device.held.gone ≡ new.device.held.gone ++ name ∷ [])
    → (read ≡ None → (old.device.held.gone ≡ []) × (new.device.held.gone ≡ [])) → LosesBut (as_read read) old new
reading old new None same some none = as_before old new same (let empty = none refl in empty.1 ∙ sym empty.0)
reading old new (Some name) same some none = record {
  held = λ q is. inl (same_stays (objects old) (objects new) same q is);
  waits = λ q has. Contains-append_cases new.device.held.gone (name ∷ []) q (subst (λ xs. Contains xs q) some has);
}

-- nor does that name come twice
pub read_keeps_names : (old new : HeldState) (read : Option ℕ) → new.objects ≡ old.objects → new.last_name ≡ old.last_name
    → IfSome read (λ name. old.gone ≡ new.gone ++ name ∷ []) → (read ≡ None → (old.gone ≡ []) × (new.gone ≡ [])) → KeepsNames old new
read_keeps_names old new None same last some none =
    fewer_wait old new same last (λ q has. let empty = none refl in subst (λ xs. Contains xs q) (empty.1 ∙ sym empty.0) has)
read_keeps_names old new (Some name) same last some none =
    fewer_wait old new same last (λ q has. subst (λ xs. Contains xs q) (sym some) (Contains-append_left new.gone (name ∷ []) q has))

-- Along all calls.

-- what the rest of the calls loses, where an earlier name was not read
then : (first : DeskState) (call : List ℕ × DeskState) (P : Type 0) (rest : List ℕ) (name : ℕ) → LosesBut call.0 first call.1
    → (IsSome (objects call.1 name) ⊎ Waits call.1 name → P ⊎ Contains rest name)
    → IsSome (objects first name) ⊎ Waits first name → P ⊎ Contains (call.0 ++ rest) name
then first call P rest name loses later is = elim is [
  | inl held ↦ after (loses.held name held)
  | inr waits ↦ elim (loses.waits name waits) [
    | inl still ↦ after (inr still)
    | inr read ↦ inr (Contains-append_left call.0 rest name read)
  ]
]
  where
    after : IsSome (objects call.1 name) ⊎ Waits call.1 name → P ⊎ Contains (call.0 ++ rest) name
    after now = elim (later now) [ inl there ↦ inl there | inr read ↦ inr (Contains-append_right call.0 rest name read) ]

-- an object or a waiting name of the first state is there in the last one, or was read
pub none_lost : (first : DeskState) (calls : List (List ℕ × DeskState)) → FollowsReading first calls → (name : ℕ)
    → IsSome (objects first name) ⊎ Waits first name
    → (IsSome (objects (last_after first calls) name) ⊎ Waits (last_after first calls) name) ⊎ Contains (read_in calls) name
none_lost first [] follows name is = inl is
none_lost first (call ∷ rest) follows name is =
    then first call (IsSome (objects (last_after call.1 rest) name) ⊎ Waits (last_after call.1 rest) name) (read_in rest) name follows.0
    (none_lost call.1 rest follows.1 name) is
