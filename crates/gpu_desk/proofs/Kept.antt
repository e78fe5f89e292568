-- What the parts of a call keep of a desk.
use Rattle.std.proofs.Common.{◌≡◌, ◌≢◌, ◌⊎◌, ◌↔◌, inl, inr, ℕ, List, take, ◌+◌, nat_lt, arith, Option, Some, None, true, false, IsTrue, refl, sym, ◌∙◌, ap, subst}
use Rattle.std.proofs.lemmas.Bool.Decides.{nat_tests}
use Rattle.std.specs.Option.{IsSome}
use Rattle.std.specs.FinMap as map
use Rattle.std.specs.Ordering.{nat_cmp}
use Rattle.gpu_alloc_types.specs.Device.{Chain, Event, Object}
use Rattle.gpu_alloc_types.specs.Objects.{put-other}
use Rattle.gpu_alloc_types.specs.Properties.{Properties}
use Rattle.gpu_alloc.specs.Allocation.{IsAsCounted}
use Rattle.gpu_alloc.specs.Agreement.{Agrees}
use Rattle.gpu_alloc.specs.Budget.{with_heap_limit}
use Rattle.gpu_alloc.specs.NewObject.{ObjectsGiven}
use Rattle.gpu_alloc.specs.Sound as allocator
use Rattle.gpu_alloc.specs.Owned.{HoldsWith}
use Rattle.gpu_alloc.specs.State.{Block, HeldObject, State, IsOwned, total}
use Rattle.gpu_alloc.specs.Types.Mapping.{Mapping}
use Rattle.gpu_alloc_base.proofs.Names.{get_put-other, here, len_put, wherever}
use Rattle.gpu_answers.specs.Asking.{RunState}
use Rattle.gpu_answers.specs.Device.{all_shown, IsStep, objects_of}
use Rattle.gpu_answers.specs.DeviceState.{DeviceState}
use Rattle.gpu_answers.specs.Held.{HeldState, KeepsNames}
use Rattle.gpu_answers.proofs.Naming.{fewer_wait, first_wait, names_kept_twice, run_keeps_names}
use Rattle.gpu_session.specs.Books.{Books}
use Rattle.gpu_session.specs.Sound as session
use Rattle.gpu_session.specs.Sound.{IsSessionKept}
use Rattle.gpu_session.specs.declared.offer.Offer.{Offer}
use Rattle.gpu_desk.specs.Calls.{HasKey}
use Rattle.gpu_desk.specs.declared.answers.ObjectRange.{ObjectRange}
use Rattle.gpu_slots.specs.SlotMap.{IsGiven, SlotState, StaysGone, with_value}

-- The device.

-- a run that was begun, as the clauses of `begin` describe it
pub begun_is : (old new : DeviceState) (run : RunState) → new.run ≡ run → new.properties ≡ old.properties → new.held ≡ old.held
    → new ≡ record old { run = run }
begun_is old new run begins offers holds =
    ap (λ p. record new { properties = p }) offers ∙ ap (λ h. record { properties = old.properties; run = new.run; held = h }) holds
    ∙ ap (λ r. record old { run = r }) begins

-- a device that offers the same and keeps the same objects shows the same
pub same_objects : (old new : DeviceState) → new.properties ≡ old.properties → (new.held).objects ≡ (old.held).objects
    → objects_of new ≡ objects_of old
same_objects old new offers holds =
    ap (λ p. all_shown p (new.held).objects) offers ∙ ap (all_shown old.properties) holds

-- a desk over it is kept as before
pub kept_over : {A : Type 0} {s : Books} {o : Offer A} (old new : DeviceState) → new.properties ≡ old.properties → (new.held).objects ≡ (old.held).objects
    → IsSessionKept old.properties (objects_of old) s o → IsSessionKept new.properties (objects_of new) s o
kept_over {s = s} {o = o} old new offers holds kept =
    subst (λ f. IsSessionKept new.properties f s o) (sym (same_objects old new offers holds)) (subst (λ p. IsSessionKept p (objects_of old) s o) (sym offers) kept)

-- a run that was begun keeps names
pub begun_keeps_names : (old begun : DeviceState) (es : List Event) (new : DeviceState) → begun.held ≡ old.held → Chain IsStep begun es new
    → KeepsNames old.held new.held
begun_keeps_names old begun es new same run = subst (λ h. KeepsNames h new.held) same (run_keeps_names begun es new run)

-- and so it is where only the first names wait that did then
pub forgetting_keeps_names : (old mid new : HeldState) (count : ℕ) → KeepsNames old mid → new.gone ≡ take count mid.gone → new.objects ≡ mid.objects
    → new.last_name ≡ mid.last_name → KeepsNames old new
forgetting_keeps_names old mid new count keeps gone objects last =
    names_kept_twice old mid new keeps (fewer_wait mid new objects last (first_wait count mid.gone new.gone gone))

-- Keys.

-- a key that was not given has no value
pub free_key : {T : Type 0} (s : SlotState T) (key : ℕ) → (IsGiven s key → ⊥) → map.get s.live key ≡ None
free_key {T} s key new = by (map.get s.live key) refl
  where
    by : (found : Option T) → map.get s.live key ≡ found → map.get s.live key ≡ None
    by None is = is
    by (Some v) is = absurd (new (inr (subst IsSome (sym is) refl)))

-- room for more keys does not matter to a new one
pub has_key : (old more : SlotState Block) (room key : ℕ) (b : Block) (new : SlotState Block) → more ≡ record old { room = room } → HasKey more key b new → HasKey old key b new
has_key old more room key b new same has =
    let h = subst (λ s. HasKey s key b new) same has in
    record { never_zero = h.never_zero; new_key = h.new_key; live = h.live; gone = h.gone }

-- a write to a value leaves every key gone that was so
pub gone_over_write : {T : Type 0} (s : SlotState T) (key : ℕ) (v w : T) → map.get s.live key ≡ Some v → StaysGone s (with_value s key w)
gone_over_write {T} s key v w at q gone = (given gone.0, get_put-other s.live key w q other ∙ gone.1)
  where
    other : q ≢ key
    other same = absurd (let none = subst (λ n. map.get s.live n ≡ None) same gone.1 in cc)

    given : IsGiven s q → IsGiven (with_value s key w) q
    given (inl spent) = inl spent
    given (inr live) = absurd (let none = gone.1 in let some = live in cc)

-- Grants.

-- the block's object is new exactly where one object less may be held
pub fresh_is : (s new : State) (b : Block) → HoldsWith s b new → IsOwned new b → total new ≡ total s
    → IsTrue (nat_lt new.remaining s.remaining) ↔ (map.get s.held b.object ≡ None)
fresh_is s new b holds owned as_many_in_all = by holds.objects
  where
    there : map.get new.held b.object ≡ Some owned.held.0
    there = owned.held.1

    by : (new.held ≡ s.held) ⊎ ((h : HeldObject) × (map.get s.held b.object ≡ None) × (new.held ≡ map.insert s.held b.object h))
        → IsTrue (nat_lt new.remaining s.remaining) ↔ (map.get s.held b.object ≡ None)
    by (inl same) =
        let as_many : map.len new.held ≡ map.len s.held = ap (λ (m : map.FinMap nat_cmp HeldObject). map.len m) same in
        let had : map.get s.held b.object ≡ Some owned.held.0 = subst (λ (m : map.FinMap nat_cmp HeldObject). map.get m b.object ≡ Some owned.held.0) same there in
        (λ more. absurd (let no : nat_lt new.remaining s.remaining ≡ false = grind (arith, nat_tests) in cc), λ none. absurd (cc))
    by (inr one) =
        let more : map.len new.held ≡ map.len s.held + 1 = ap (λ (m : map.FinMap nat_cmp HeldObject). map.len m) one.2 ∙ len_put s.held b.object one.0 one.1 in
        let yes : nat_lt new.remaining s.remaining ≡ true = grind (arith, nat_tests) in
        (λ is. one.1, λ none. yes)

-- no other object comes or goes
pub given_others : (p : Properties) (before after : Option HeldObject) (name : ℕ) (f g : ℕ → Option Object) → ObjectsGiven (IsAsCounted p) before after name f g
    → (q : ℕ) → q ≢ name → g q ≡ f q
given_others p None after name f g more q other = ap (λ (h : ℕ → Option Object). h q) more.now ∙ put-other f name (Some more.made) q other
given_others p (Some h) after name f g same q other = ap (λ (h : ℕ → Option Object). h q) same

-- Ranges.

pub range_is : (o p : ℕ) (m n : Mapping) → o ≡ p → m ≡ n
    → ◌≡◌ {A = ObjectRange} (record { object = o; offset = m.start; size = m.len }) (record { object = p; offset = n.start; size = n.len })
range_is o p m n same_object same_mapping =
    ap (λ q. record { object = q; offset = m.start; size = m.len }) same_object ∙ ap (λ (k : Mapping). record { object = p; offset = k.start; size = k.len }) same_mapping

-- Limits.

-- a heap's limit does not matter to what a desk keeps
pub limited_is_kept : {A : Type 0} {p : Properties} {objects : ℕ → Option Object} {s : State} {blocks : map.FinMap nat_cmp Block} {o : Offer A} (heap limit : ℕ)
    → IsSessionKept p objects (record { allocator = s; blocks = blocks }) o → ((b : Block) → IsOwned s b → IsOwned (with_heap_limit s heap limit) b)
    → Agrees (with_heap_limit s heap limit) p objects → allocator.IsSound (with_heap_limit s heap limit)
    → IsSessionKept p objects (record { allocator = with_heap_limit s heap limit; blocks = blocks }) o
limited_is_kept {p = p} {objects = objects} {s = s} {blocks = blocks} heap limit kept owned agrees sound = record {
  sound = record {
    agrees = agrees;
    allocator = sound;
    blocks = λ name. wherever (map.get blocks name) (session.IsBlock p (with_heap_limit s heap limit) objects) (λ b at.
        let lives = here (map.get blocks name) (session.IsBlock p s objects) ((kept.sound).blocks name) b at in
        record { nonempty = lives.nonempty; owned = owned b lives.owned; inside = lives.inside; whole_atoms = lives.whole_atoms; agrees = lives.agrees });
    apart = (kept.sound).apart;
    named = λ span live. (kept.sound).named span live;
  };
  offer = kept.offer;
}
