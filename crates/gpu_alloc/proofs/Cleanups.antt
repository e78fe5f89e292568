-- What goes of each memory type's free list and fit chunks as all of them are cleaned up in turn.
use Rattle.std.proofs.Common.{◌≡◌, ◌⊎◌, inl, inr, ℕ, zero, suc, ◌+◌, ◌<◌, ◌↔◌, true, false, List, [], ◌∷◌, ◌++◌, length, Option, Some, None, IfSome, Contains, refl, sym, ◌∙◌, ap, subst, arith}
use Rattle.std.proofs.lemmas.Bool.{cases_eq}
use Rattle.std.proofs.lemmas.List.Elements.{Contains-append_left, Contains-append_right, Contains-append_cases}
use Rattle.std.proofs.Math.Numerals.{add-one}
use Rattle.std.specs.Cmp.{nat_cmp_total}
use Rattle.std.specs.FinMap as finite
use Rattle.std.specs.FinMap.{nat_cmp-IsAntisymmetric}
use Rattle.std.specs.Ordering.{nat_cmp}
use Rattle.std.specs.Prelude.{sum_by}
use Rattle.gpu_alloc_types.specs.Device.{Event, Object}
use Rattle.gpu_alloc_types.specs.Properties.{Properties}
use Rattle.gpu_alloc_block.specs.Agreement.{Agrees}
use Rattle.gpu_alloc.specs.Inside.{state_in, properties_in}
use Rattle.gpu_alloc.proofs.Linked.{IsConsistent}
use Rattle.gpu_alloc.specs.FitSharing.{IsFitChunk}
use Rattle.gpu_alloc.specs.FreeListSharing.{IsListChunk}
use Rattle.gpu_alloc.specs.Release.{AreAllReleased, AreChunksReleased, AreReleasedOfType, IsCleanedUp, ReleasesChunks, ReleasesFitChunks, ReleasesType, Releases, without_all, without_objects}
use Rattle.gpu_alloc.specs.Sound.{may_be_unused, HasLiveSpan, IsSound}
use Rattle.gpu_alloc.specs.Spans.{Table}
use Rattle.gpu_alloc_block.specs.State.{HeldObject, Span, State, IsLive, share, ledger, total}
use Rattle.gpu_alloc_block.specs.declared.block.Kind.{Kind}
use Rattle.gpu_alloc_block.specs.declared.block.Kind.TheVariants.{Dedicated, Imported, BuddyChunk, FreeListChunk, FitChunk}
use Rattle.gpu_alloc_base.specs.declared.heap.Heap.{Heap}
use Rattle.gpu_alloc.specs.declared.limits.Limits.{Limits}
use Rattle.gpu_alloc.proofs.Consistency.{known_object}
use Rattle.gpu_alloc.proofs.Ledgers.{Held}
use Rattle.gpu_alloc.proofs.GoneObjects.{kept_is, kept_was, lets_more, objects_more}
use Rattle.gpu_alloc.proofs.SameTypes.{AgreeOnFits, AgreeOnType, agree_after, agree_back, agree_without, fits_agree, type_agrees}
use Rattle.gpu_alloc_base.proofs.Lists.{contains_none}
use Rattle.gpu_alloc_base.proofs.Maps.{one_value}
use Rattle.gpu_alloc.proofs.Soundness.{sound_is}
use Rattle.gpu_alloc.specs.declared.allocator.stores.TypeStores.{TypeStores}

-- One memory type: what its free list gives back, and then its fit chunks.

-- what went of the free list leaves the fit chunks
fits_stay : (s now : State) (t : ℕ) (listed : List ℕ) → AreChunksReleased s t false listed → now.held ≡ without_all s.held listed → now.live ≡ s.live → AgreeOnFits s now t
fits_stay s now t listed chunks held live = agree_without _ s now listed held live (λ object h has is of.
    let may = (chunks.all object).0 has in
    let kinds : FitChunk ≡ FreeListChunk may.0 = sym of.1 ∙ ap (λ (x : HeldObject). x.kind) (one_value _ h may.1.chunk.chunk is may.1.chunk.held) ∙ may.1.chunk.of_kind in
    absurd (cc))

pub type_goes : (s now after : State) (objects objects_now objects_after : ℕ → Option Object) (t : ℕ) (listed fitted : List ℕ) (es fs : List Event) → ReleasesChunks s t false listed es now objects objects_now
    → ReleasesFitChunks now t fitted fs after objects_now objects_after → ReleasesType s t (listed ++ fitted) (es ++ fs) after objects objects_after
type_goes s now after objects objects_now objects_after t listed fitted es fs first then =
    let stay = fits_stay s now t listed first.chunks (ap (λ (x : State). x.held) first.lets.1) (ap (λ (x : State). x.live) first.lets.1) in
    record {
      chunks = record { listed = listed; fitted = fitted; both = refl; of_list = first.chunks; of_fits = fits_agree (agree_back stay) fitted then.chunks };
      lets = lets_more s now after listed fitted es fs first.lets then.lets;
      objects = then.objects ∙ ap (λ f. without_objects f fitted) first.objects ∙ sym (objects_more objects listed fitted);
    }

-- The way of the loop: what may go of the memory types before this one went.
pub record IsCleaning (s : State) (objects : ℕ → Option Object) (t : ℕ) (gone : List ℕ) (es : List Event) (now : State) (p : Properties) (objects_now : ℕ → Option Object) : Type 0 where
  pub all : AreAllReleased s t gone
  pub lets : Releases s gone es now
  pub objects_are : objects_now ≡ without_objects objects gone
  pub agrees : Agrees now p objects_now
  pub whole : total now ≡ total s

-- one memory type more
pub cleaning_goes_on : (s now after : State) (p q : Properties) (objects objects_now objects_after : ℕ → Option Object) (t : ℕ) (gone own : List ℕ) (es fs : List Event) → IsCleaning s objects t gone es now p objects_now
    → ReleasesType now t own fs after objects_now objects_after → Agrees after q objects_after → total after ≡ total now
    → IsCleaning s objects (t + 1) (gone ++ own) (es ++ fs) after q objects_after
cleaning_goes_on s now after p q objects objects_now objects_after t gone own es fs w gives agrees whole = record {
  all = subst (λ n. AreAllReleased s n (gone ++ own)) (sym (add-one t)) (gone, own, refl, w.all, type_agrees (agree_back same_type) own gives.chunks);
  lets = lets_more s now after gone own es fs w.lets gives.lets;
  objects_are = gives.objects ∙ ap (λ f. without_objects f own) w.objects_are ∙ sym (objects_more objects gone own);
  agrees = agrees;
  whole = whole ∙ w.whole;
}
  where
    same_type : AgreeOnType s now t
    same_type = agree_after s now t gone w.all (ap (λ (x : State). x.held) w.lets.1) (ap (λ (x : State). x.live) w.lets.1)

-- Where no block is live, all is gone.

-- what went of a memory type is among what went of all
among_all : (s : State) (n t : ℕ) (gone : List ℕ) → t < n → AreAllReleased s n gone → (own : List ℕ) × AreReleasedOfType s t own × ((name : ℕ) → Contains own name → Contains gone name)
among_all s zero t gone lt all = absurd (omega (arith, lt))
among_all s (suc n) t gone lt (earlier, own, both, all, chunks) = elim (cases_eq t n) [
  | inl last ↦ (own, subst (λ k. AreReleasedOfType s k own) (sym last) chunks, λ name has. subst (λ xs. Contains xs name) (sym both) (Contains-append_right earlier own name has))
  | inr before ↦
      let rest = among_all s n t earlier (omega (arith, lt, before)) all in
      (rest.0, rest.1, λ name has. subst (λ xs. Contains xs name) (sym both) (Contains-append_left earlier own name (rest.2 name has)))
]

-- an object that may be held without a live span is a chunk of a free list, or a fit chunk
unused_kind : (kind : Kind) → may_be_unused kind ≡ true → ((number : ℕ) × (kind ≡ FreeListChunk number)) ⊎ (kind ≡ FitChunk)
unused_kind Dedicated may = absurd (cc)
unused_kind Imported may = absurd (cc)
unused_kind BuddyChunk may = absurd (cc)
unused_kind (FreeListChunk number) may = inl (number, refl)
unused_kind FitChunk may = inr refl

-- without one it goes with its memory type
unused_goes : (s : State) (own : List ℕ) (name : ℕ) (h : HeldObject) → AreReleasedOfType s h.memory_type own → finite.get s.held name ≡ Some h → IsCleanedUp s name h → Contains own name
unused_goes s own name h of_type found cleaned = elim (unused_kind h.kind cleaned.0) [
  | inl listed ↦
      let chunk : IsListChunk s h.memory_type listed.0 name = record { chunk = h; held = found; of_type = refl; of_kind = listed.1 } in
      let has = (of_type.of_list.all name).1 (listed.0, record { chunk = chunk; unused = cleaned.1; not_last = λ kept. absurd (cc) }) in
      subst (λ names. Contains names name) (sym of_type.both) (Contains-append_left of_type.listed of_type.fitted name has)
  | inr fitted ↦
      let chunk : IsFitChunk s h.memory_type name = record { chunk = h; held = found; of_type = refl; of_kind = fitted } in
      let has = (of_type.of_fits.all name).1 (record { chunk = chunk; unused = cleaned.1 }) in
      subst (λ names. Contains names name) (sym of_type.both) (Contains-append_right of_type.listed of_type.fitted name has)
]

-- and what goes with its memory type is one without
goes_unused : (s : State) (t : ℕ) (own : List ℕ) (name : ℕ) (h : HeldObject) → AreReleasedOfType s t own → finite.get s.held name ≡ Some h → Contains own name → IsCleanedUp s name h
goes_unused s t own name h of_type found has = elim (Contains-append_cases of_type.listed of_type.fitted name (subst (λ names. Contains names name) of_type.both has)) [
  | inl listed ↦
      let may = ((of_type.of_list.all name).0 listed).1 in
      let same : h ≡ may.chunk.chunk = one_value _ h may.chunk.chunk found may.chunk.held in
      (ap (λ (x : HeldObject). may_be_unused x.kind) same ∙ ap may_be_unused may.chunk.of_kind, may.unused)
  | inr fitted ↦
      let is = (of_type.of_fits.all name).0 fitted in
      let same : h ≡ is.chunk.chunk = one_value _ h is.chunk.chunk found is.chunk.held in
      (ap (λ (x : HeldObject). may_be_unused x.kind) same ∙ ap may_be_unused is.chunk.of_kind, is.unused)
]

may_be : (kind : Kind) → (may_be_unused kind ≡ false → ⊥) → may_be_unused kind ≡ true
may_be Dedicated used = absurd (used refl)
may_be Imported used = absurd (used refl)
may_be BuddyChunk used = absurd (used refl)
may_be (FreeListChunk number) used = refl
may_be FitChunk used = refl

-- nothing sums up to nothing
no_sum : {X : Type 0} (f : X → ℕ) (xs : List X) → length xs ≡ 0 → sum_by f xs ≡ 0
no_sum f [] none = refl
no_sum f (x ∷ xs) none = absurd (omega (arith, none))

module _ {A M X : Type 0} (l : Limits A) (heaps : List Heap) (ss : List (TypeStores M X)) (t : Table) (remaining : ℕ) (is : IsConsistent l.sharing l.config (properties_in l heaps) heaps ss t remaining) where
  abbrev s : State
  s = state_in l heaps ss t remaining

  sound : IsSound s
  sound = sound_is l heaps ss t remaining is

  module _ (gone : List ℕ) (all : AreAllReleased s (length (properties_in l heaps).memory_types) gone) where
    -- a chunk in which nothing is live goes
    cleaned_goes : (name : ℕ) (h : HeldObject) → finite.get t.held name ≡ Some h → IsCleanedUp s name h → Contains gone name
    cleaned_goes name h found cleaned =
        let known = known_object (properties_in l heaps) heaps t remaining is.books refl name h found in
        let own = among_all s (length (properties_in l heaps).memory_types) h.memory_type gone known.of_type all in
        own.2 name (unused_goes s own.0 name h own.1 found cleaned)

    -- and nothing else
    is_cleaned : (n : ℕ) (some : List ℕ) → AreAllReleased s n some → (name : ℕ) (h : HeldObject) → finite.get t.held name ≡ Some h → Contains some name → IsCleanedUp s name h
    is_cleaned zero some none name h found has = absurd (contains_none name (subst (λ names. Contains names name) none has))
    is_cleaned (suc n) some (earlier, own, both, before, chunks) name h found has =
        elim (Contains-append_cases earlier own name (subst (λ names. Contains names name) both has)) [
          | inl first ↦ is_cleaned n earlier before name h found first
          | inr now ↦ goes_unused s n own name h chunks found now
        ]

    -- what stays is what was held and is not cleaned up
    pub left_is : (now : State) (es : List Event) → Releases s gone es now → (name : ℕ) (h : HeldObject) → finite.get now.held name ≡ Some h ↔ ((finite.get t.held name ≡ Some h) × (IsCleanedUp s name h → ⊥))
    left_is now es lets name h =
        let held : now.held ≡ without_all t.held gone = ap (λ (x : State). x.held) lets.1 in (
          λ still. let was = kept_was t.held gone name h (ap (λ (m : Held). finite.get m name) (sym held) ∙ still) in (was.1, λ cleaned. was.0 (cleaned_goes name h was.1 cleaned)),
          λ (found, stays). ap (λ (m : Held). finite.get m name) held ∙ kept_is t.held gone name (λ has. stays (is_cleaned (length (properties_in l heaps).memory_types) gone all name h found has)) ∙ found,
        )

  module _ (unused : (span : Span) → IsLive s span → ⊥) (gone : List ℕ) (all : AreAllReleased s (length (properties_in l heaps).memory_types) gone) where
    held_goes : (name : ℕ) (h : HeldObject) → finite.get t.held name ≡ Some h → Contains gone name
    held_goes name h found =
        let used = subst (λ (o : Option HeldObject). IfSome o (λ x. may_be_unused x.kind ≡ false → HasLiveSpan s name)) found (sound.used name) in
        let may : may_be_unused h.kind ≡ true = may_be h.kind (λ no_chunk. let span = used no_chunk in unused span.0 span.1) in
        cleaned_goes gone all name h found (may, λ span live named. unused span live)

    none_held : (name : ℕ) (o : Option HeldObject) → finite.get (without_all t.held gone) name ≡ o → o ≡ None
    none_held name None is = refl
    none_held name (Some h) is = let was = kept_was t.held gone name h is in absurd (was.0 (held_goes name h was.1))

    nothing_held : without_all t.held gone ≡ finite.empty
    nothing_held = finite.same_map nat_cmp_total nat_cmp-IsAntisymmetric _ _ (λ name. none_held name (finite.get (without_all t.held gone) name) refl ∙ sym (finite.get-empty nat_cmp name))

    pub all_gone : (now : State) (es : List Event) → Releases s gone es now → (now.held ≡ finite.empty) × ((heap : ℕ) → ledger now heap ≡ 0)
    all_gone now es lets =
        let held : now.held ≡ finite.empty = ap (λ (x : State). x.held) lets.1 ∙ nothing_held in
        (held, λ heap. no_sum (share now.properties heap) (finite.entries now.held) (sym (finite.len-entries now.held) ∙ ap (λ (m : Held). finite.len m) held ∙ finite.len-empty nat_cmp HeldObject))
