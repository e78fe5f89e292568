-- What a call changes in what is live and held, over the definitions alone.
use Rattle.std.proofs.Common.{◌≡◌, ◌≢◌, ◌⊎◌, inl, inr, ℕ, zero, suc, ◌+◌, ◌<◌, ◌≤◌, Bool, true, false, List, [], ◌∷◌, Option, Some, None, Ok, refl, sym, ◌∙◌, ap, subst, arith, Contains}
use Rattle.std.proofs.lemmas.List.Elements.{Contains-append_left, Contains-append_right, Contains-append_cases}
use Rattle.std.specs.FinMap as map
use Rattle.std.specs.FinSet as set
use Rattle.gpu_alloc_types.specs.Device.{Event, Object, put}
use Rattle.gpu_alloc_types.specs.Objects.{put-same, put-other}
use Rattle.gpu_alloc_base.specs.Case as case
use Rattle.gpu_alloc.specs.Allocation.{AllocatesBy, Plan, strategy}
use Rattle.gpu_alloc_block.specs.Agreement.{Agrees, IsCountedFor}
use Rattle.gpu_alloc.specs.Candidates.{candidate}
use Rattle.gpu_alloc.specs.Owned.{HoldsWith}
use Rattle.gpu_alloc.specs.Release.{AreAllReleased, AreChunksReleased, AreFitChunksReleased, AreReleasedOfType, ReleasedWith, without_all, without_objects}
use Rattle.gpu_alloc.specs.Sound.{IsSound, LiesIn}
use Rattle.gpu_alloc_block.specs.State.{State, Block, HeldObject, Span, span_of, AreSpansApart, IsLive, IsOwned}
use Rattle.gpu_alloc.specs.declared.allocator.Strategy.{Strategy}
use Rattle.gpu_alloc.specs.declared.allocator.Strategy.TheVariants.{OwnObject, InBuddyChunk, InFreeList, InFitChunk}
use Rattle.gpu_alloc_block.specs.declared.block.Kind.{Kind}
use Rattle.gpu_alloc_block.specs.declared.block.Kind.TheVariants.{Dedicated as DedicatedObject, Imported, BuddyChunk, FreeListChunk, FitChunk}
use Rattle.gpu_alloc.specs.declared.request.Request.{Request}
use Rattle.gpu_alloc_types.specs.Properties.{Properties}
use Rattle.gpu_alloc_base.proofs.Lists.{contains_head, contains_later, contains_cases, contains_none}
use Rattle.gpu_alloc_base.proofs.Maps.{one_value}
use Rattle.gpu_alloc_base.proofs.Names.{here, one_or_two, get_removed-other, get_put-other, len_put}
use Rattle.gpu_alloc.proofs.Decisions.{of_grant}
use Rattle.gpu_alloc.proofs.GoneObjects.{kept_was}
use Rattle.gpu_alloc.proofs.SameTypes.{gone_held}
use Rattle.gpu_alloc.proofs.Ledgers.{Held}
use Rattle.gpu_alloc_block.proofs.LiveSpans.{live_still}

-- A grant.

-- one more span is live, the held objects are those of before or those and the block's, and what was given to `new` stays
pub record Grows (s : State) (b : Block) (new : State) : Type 0 where
  pub live : new.live ≡ set.insert s.live (span_of b)
  pub held : HoldsWith s b new
  pub properties : new.properties ≡ s.properties
  pub sharing : new.sharing ≡ s.sharing
  pub config : new.config ≡ s.config
  pub limits : new.heap_limits ≡ s.heap_limits

-- what was held is held as it was
still_held : (s : State) (b : Block) (new : State) → HoldsWith s b new → (object : ℕ) (h : HeldObject) → map.get s.held object ≡ Some h → map.get new.held object ≡ Some h
still_held s b new holds object h at = elim (holds.objects) [
  | inl same ↦ ap (λ (m : Held). map.get m object) same ∙ at
  | inr (made, free, more) ↦
      ap (λ (m : Held). map.get m object) more
      ∙ get_put-other s.held b.object made object (λ same. let none : map.get s.held object ≡ None = ap (map.get s.held) same ∙ free in absurd (cc)) ∙ at
]

-- none more, or one
holds_as_before : (s : State) (b : Block) (new : State) → new.held ≡ s.held → HoldsWith s b new
holds_as_before s b new same =
    let as_many : map.len new.held ≡ map.len s.held = ap (λ (m : Held). map.len m) same in
    record { objects = inl same; few = omega (arith, as_many) }

pub holds_one_more : (s : State) (b : Block) (new : State) (h : HeldObject) → map.get s.held b.object ≡ None → new.held ≡ map.insert s.held b.object h → HoldsWith s b new
holds_one_more s b new h free more =
    let one_more : map.len new.held ≡ map.len s.held + 1 = ap (λ (m : Held). map.len m) more ∙ len_put s.held b.object h free in
    record { objects = inr (h, free, more); few = omega (arith, one_more) }

-- so each block that was owned is
pub granted_kept : (s : State) (b : Block) (new : State) → Grows s b new → (c : Block) → IsOwned s c → IsOwned new c
granted_kept s b new grows c owned = record {
  live = rw (grows.live) (live_still s.live (span_of b) (span_of c) owned.live);
  held = (owned.held.0, still_held s b new grows.held c.object owned.held.0 owned.held.1, owned.held.2, owned.held.3);
}

grows_like : (s : State) (b : Block) (like new : State) → new ≡ like → Grows s b like → Grows s b new
grows_like s b like new same grows = subst (Grows s b) (sym same) grows

grant_grows : (w : Strategy) (s : State) (r : Request) (t : ℕ) (es : List Event) (b : Block) (new : State) → case.Decides (candidate w s r t) es (Ok b) new → Grows s b new
grant_grows OwnObject s r t es b new (inl gives) = absurd gives.place
grant_grows OwnObject s r t es b new (inr gives) = grows_like s b _ new gives.state (record { live = refl; held = holds_one_more s b _ _ gives.place.was_free refl; properties = refl; sharing = refl; config = refl; limits = refl })
grant_grows InBuddyChunk s r t es b new (inl gives) = grows_like s b _ new gives.state (record { live = refl; held = holds_as_before s b _ refl; properties = refl; sharing = refl; config = refl; limits = refl })
grant_grows InBuddyChunk s r t es b new (inr gives) = grows_like s b _ new gives.state (record { live = refl; held = holds_one_more s b _ _ gives.place.was_free refl; properties = refl; sharing = refl; config = refl; limits = refl })
grant_grows InFreeList s r t es b new (inl gives) = grows_like s b _ new gives.state (record { live = refl; held = holds_as_before s b _ refl; properties = refl; sharing = refl; config = refl; limits = refl })
grant_grows InFreeList s r t es b new (inr gives) = grows_like s b _ new gives.state (record { live = refl; held = holds_one_more s b _ _ gives.place.was_free refl; properties = refl; sharing = refl; config = refl; limits = refl })
grant_grows InFitChunk s r t es b new (inl gives) = grows_like s b _ new gives.state (record { live = refl; held = holds_as_before s b _ refl; properties = refl; sharing = refl; config = refl; limits = refl })
grant_grows InFitChunk s r t es b new (inr gives) = grows_like s b _ new gives.state (record { live = refl; held = holds_one_more s b _ _ gives.place.was_free refl; properties = refl; sharing = refl; config = refl; limits = refl })

pub allocates_grow : (s : State) (p : Plan) (es : List Event) (b : Block) (new : State) → AllocatesBy s p es (Ok b) new → Grows s b new
allocates_grow s p es b new = of_grant s p b new (λ t fs chosen decides. let a = p.asked t in grant_grows (strategy s a.request a.hint t) s a.request t fs b new decides.1) es

-- Objects that go.

-- an object is among those that go, or is held as before
pub gone_or_kept : (held : Held) (gone : List ℕ) (object : ℕ) → Contains gone object ⊎ (map.get (without_all held gone) object ≡ map.get held object)
gone_or_kept held [] object = inr refl
gone_or_kept held (name ∷ gone) object = elim (one_or_two object name) [
  | inl same ↦ inl (subst (Contains (name ∷ gone)) (sym same) (contains_head name gone))
  | inr other ↦ elim (gone_or_kept (map.remove held name) gone object) [
    | inl later ↦ inl (contains_later name object gone later)
    | inr kept ↦ inr (kept ∙ get_removed-other held name object other)
  ]
]

-- the device has none of them any more
pub objects_gone : (objects : ℕ → Option Object) (gone : List ℕ) (object : ℕ) → Contains gone object ⊎ (objects object ≡ None) → without_objects objects gone object ≡ None
objects_gone objects [] object (inl has) = absurd (contains_none object has)
objects_gone objects [] object (inr none) = none
objects_gone objects (name ∷ gone) object was = objects_gone (put objects name None) gone object (elim (one_or_two object name) [
  | inl same ↦ inr (ap (put objects name None) same ∙ put-same objects name None)
  | inr other ↦ elim was [
    | inl has ↦ elim (contains_cases name object gone has) [ inl same ↦ absurd (other same) | inr later ↦ inl later ]
    | inr none ↦ inr (put-other objects name None object other ∙ none)
  ]
])

-- and all others as before
pub objects_stay : (objects : ℕ → Option Object) (gone : List ℕ) (object : ℕ) → (Contains gone object → ⊥) → without_objects objects gone object ≡ objects object
objects_stay objects [] object stays = refl
objects_stay objects (name ∷ gone) object stays =
    objects_stay (put objects name None) gone object (λ later. stays (contains_later name object gone later))
    ∙ put-other objects name None object (λ same. stays (subst (Contains (name ∷ gone)) (sym same) (contains_head name gone)))

-- What is released was held.

chunk_held : (s : State) (t : ℕ) (keep_last : Bool) (gone : List ℕ) → AreChunksReleased s t keep_last gone → (object : ℕ) → Contains gone object → (h : HeldObject) × (map.get s.held object ≡ Some h)
chunk_held s t keep_last gone chunks object has =
    let may = (chunks.all object).0 has in
    (may.1.chunk.chunk, may.1.chunk.held)

-- it is the one object that is held
is_held : (s : State) (object name : ℕ) (gone : List ℕ) → gone ≡ object ∷ [] → (h : HeldObject) × (map.get s.held object ≡ Some h) → Contains gone name → (h : HeldObject) × (map.get s.held name ≡ Some h)
is_held s object name gone is there has = elim (contains_cases object name [] (subst (λ names. Contains names name) is has)) [
  | inl same ↦ (there.0, ap (map.get s.held) same ∙ there.1)
  | inr never ↦ absurd (contains_none name never)
]

pub goes_held : (k : Kind) (s : State) (object : ℕ) (gone : List ℕ) → (h : HeldObject) × (map.get s.held object ≡ Some h) → ReleasedWith k s object gone → (name : ℕ) → Contains gone name → (h : HeldObject) × (map.get s.held name ≡ Some h)
goes_held DedicatedObject s object gone there goes name has = is_held s object name gone goes there has
goes_held Imported s object gone there goes name has = is_held s object name gone goes there has
goes_held BuddyChunk s object gone there (inl went) name has = is_held s object name gone went.1 there has
goes_held BuddyChunk s object gone there (inr stays) name has = absurd (contains_none name (subst (λ names. Contains names name) stays.1 has))
goes_held (FreeListChunk number) s object gone there goes name has = chunk_held s goes.0.memory_type true gone goes.2 name has
goes_held FitChunk s object gone there (inl went) name has = is_held s object name gone went.1 there has
goes_held FitChunk s object gone there (inr stays) name has = absurd (contains_none name (subst (λ names. Contains names name) stays.1 has))

pub all_held : (s : State) (n : ℕ) (gone : List ℕ) → AreAllReleased s n gone → (name : ℕ) → Contains gone name → (h : HeldObject) × (map.get s.held name ≡ Some h)
all_held s zero gone none name has = absurd (contains_none name (subst (λ names. Contains names name) none has))
all_held s (suc n) gone (earlier, own, both, before, chunks) name has = elim (Contains-append_cases earlier own name (subst (λ names. Contains names name) both has)) [
  | inl first ↦ all_held s n earlier before name first
  | inr now ↦ let is = gone_held s n own chunks name now in (is.0, is.1)
]

-- What is released is determined, up to its order.

chunks_same : (s : State) (t : ℕ) (keep_last : Bool) (gone also : List ℕ) → AreChunksReleased s t keep_last gone → AreChunksReleased s t keep_last also → (name : ℕ) → Contains gone name → Contains also name
chunks_same s t keep_last gone also chunks others name has = (others.all name).1 ((chunks.all name).0 has)

fits_same : (s : State) (t : ℕ) (gone also : List ℕ) → AreFitChunksReleased s t gone → AreFitChunksReleased s t also → (name : ℕ) → Contains gone name → Contains also name
fits_same s t gone also fits others name has = (others.all name).1 ((fits.all name).0 has)

type_same : (s : State) (t : ℕ) (gone also : List ℕ) → AreReleasedOfType s t gone → AreReleasedOfType s t also → (name : ℕ) → Contains gone name → Contains also name
type_same s t gone also of_type others name has =
    subst (λ names. Contains names name) (sym others.both) (elim (Contains-append_cases of_type.listed of_type.fitted name (subst (λ names. Contains names name) of_type.both has)) [
      | inl listed ↦ Contains-append_left others.listed others.fitted name (chunks_same s t false of_type.listed others.listed of_type.of_list others.of_list name listed)
      | inr fitted ↦ Contains-append_right others.listed others.fitted name (fits_same s t of_type.fitted others.fitted of_type.of_fits others.of_fits name fitted)
    ])

pub goes_same : (k : Kind) (s : State) (object : ℕ) (gone also : List ℕ) → ReleasedWith k s object gone → ReleasedWith k s object also → (name : ℕ) → Contains gone name → Contains also name
goes_same DedicatedObject s object gone also goes same name has = subst (λ names. Contains names name) (goes ∙ sym same) has
goes_same Imported s object gone also goes same name has = subst (λ names. Contains names name) (goes ∙ sym same) has
goes_same BuddyChunk s object gone also (inl goes) (inl same) name has = subst (λ names. Contains names name) (goes.1 ∙ sym same.1) has
goes_same BuddyChunk s object gone also (inl goes) (inr same) name has = absurd (same.0 goes.0)
goes_same BuddyChunk s object gone also (inr goes) (inl same) name has = absurd (goes.0 same.0)
goes_same BuddyChunk s object gone also (inr goes) (inr same) name has = subst (λ names. Contains names name) (goes.1 ∙ sym same.1) has
goes_same (FreeListChunk number) s object gone also goes same name has =
    let one : goes.0 ≡ same.0 = one_value _ goes.0 same.0 goes.1 same.1 in
    chunks_same s same.0.memory_type true gone also (subst (λ (h : HeldObject). AreChunksReleased s h.memory_type true gone) one goes.2) same.2 name has
goes_same FitChunk s object gone also (inl goes) (inl same) name has = subst (λ names. Contains names name) (goes.1 ∙ sym same.1) has
goes_same FitChunk s object gone also (inl goes) (inr same) name has = absurd (same.0 goes.0)
goes_same FitChunk s object gone also (inr goes) (inl same) name has = absurd (goes.0 same.0)
goes_same FitChunk s object gone also (inr goes) (inr same) name has = subst (λ names. Contains names name) (goes.1 ∙ sym same.1) has

pub all_same : (s : State) (n : ℕ) (gone also : List ℕ) → AreAllReleased s n gone → AreAllReleased s n also → (name : ℕ) → Contains gone name → Contains also name
all_same s zero gone also none same name has = subst (λ names. Contains names name) (none ∙ sym same) has
all_same s (suc n) gone also (earlier, own, both, before, chunks) (earlier', own', both', before', chunks') name has =
    subst (λ names. Contains names name) (sym both') (elim (Contains-append_cases earlier own name (subst (λ names. Contains names name) both has)) [
      | inl first ↦ Contains-append_left earlier' own' name (all_same s n earlier earlier' before before' name first)
      | inr now ↦ Contains-append_right earlier' own' name (type_same s n own own' chunks chunks' name now)
    ])

-- Blocks that stay.

-- two spans that are apart are two
pub apart_differ : (x y : Span) → AreSpansApart x y → 0 < x.size → x ≢ y
apart_differ x y (inl other) some same = other (ap (λ (z : Span). z.object) same)
apart_differ x y (inr (inl before)) some same = absurd (omega (arith, before, some, ap (λ (z : Span). z.offset) same))
apart_differ x y (inr (inr after)) some same = absurd (omega (arith, after, some, ap (λ (z : Span). z.offset) same, ap (λ (z : Span). z.size) same))

-- where objects went, a block whose span is live still is owned as before
pub still_owned : (s new : State) (gone : List ℕ) (c : Block) → IsSound new → new.held ≡ without_all s.held gone → IsOwned s c → IsLive new (span_of c) → IsOwned new c
still_owned s new gone c sound held owned live =
    let lies = sound.inside (span_of c) live in
    let was = (kept_was s.held gone c.object lies.0 (ap (λ (m : Held). map.get m c.object) (sym held) ∙ lies.1)).1 in
    let same : owned.held.0 ≡ lies.0 = one_value _ owned.held.0 lies.0 owned.held.1 was in
    record { live = live; held = (lies.0, lies.1, ap (λ (h : HeldObject). h.memory_type) (sym same) ∙ owned.held.2, ap (λ (h : HeldObject). h.kind) (sym same) ∙ owned.held.3) }

-- A block in its object on the device.

lies_within : (k : Kind) (s : State) (span : Span) (counted : ℕ) (o : Object) → IsLive s span → LiesIn k counted span → IsCountedFor k s span.object counted o → span.offset + span.size ≤ o.size
lies_within DedicatedObject s span counted o live lies is = omega (arith, lies.0, lies.1, is)
lies_within Imported s span counted o live lies is = (is span live refl).within
lies_within BuddyChunk s span counted o live lies is = omega (arith, lies, is.0)
lies_within (FreeListChunk number) s span counted o live lies is = omega (arith, lies, is.0)
lies_within FitChunk s span counted o live lies is = omega (arith, lies, is.0)

-- where allocator and device agree, an owned block lies inside its object, which is of the block's memory type
pub owned_within : (s : State) (p : Properties) (objects : ℕ → Option Object) (b : Block) → IsSound s → Agrees s p objects → IsOwned s b
    → (o : Object) × (objects b.object ≡ Some o) × (o.memory_type ≡ b.memory_type) × (b.offset + b.size ≤ o.size)
owned_within s p objects b sound agrees owned =
    let lies = sound.inside (span_of b) owned.live in
    let there = here (map.get s.held b.object) _ (agrees.holds b.object) lies.0 lies.1 in
    let same : owned.held.0 ≡ lies.0 = one_value _ owned.held.0 lies.0 owned.held.1 lies.1 in
    (there.0, there.1, there.2.of_type ∙ ap (λ (h : HeldObject). h.memory_type) (sym same) ∙ owned.held.2, lies_within lies.0.kind s (span_of b) lies.0.counted there.0 owned.live lies.2 there.2.of_size)
