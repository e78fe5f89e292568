-- Two states that hold the same of one memory type: what is released of one is released of the other.
use Rattle.std.proofs.Common.{◌≡◌, inl, inr, ℕ, zero, suc, ◌<◌, Bool, false, List, get_or, Some, IsTrue, Contains, sym, ◌∙◌, ap, subst, arith}
use Rattle.std.proofs.lemmas.List.Elements.{Contains-append_cases}
use Rattle.std.specs.FinMap as finite
use Rattle.std.specs.FinSet as set
use Rattle.gpu_alloc_base.proofs.Lists.{contains_none}
use Rattle.gpu_alloc_base.proofs.Maps.{one_value}
use Rattle.gpu_alloc_base.proofs.SameRuns.{AreSameBytes, last_run_same}
use Rattle.gpu_alloc_block.specs.State.{HeldObject, IsLive, Span, State, span_cmp}
use Rattle.gpu_alloc_block.specs.declared.block.Kind.TheVariants.{FitChunk}
use Rattle.gpu_alloc.specs.FreeListSharing.{IsFreeInChunk, IsListChunk}
use Rattle.gpu_alloc.specs.Release.{AreAllReleased, AreChunksReleased, AreFitChunksReleased, AreReleasedOfType, IsUnusedFit, ListChunkMayGo, without_all}
use Rattle.gpu_alloc.proofs.GoneObjects.{kept_is, kept_was}
use Rattle.gpu_alloc.proofs.Ledgers.{Held}

-- the same objects of these are held, and the same spans are live
pub record AgreeOn (Of : HeldObject → Type 0) (s s' : State) : Type 0 where
  pub to : (object : ℕ) (h : HeldObject) → Of h → finite.get s.held object ≡ Some h → finite.get s'.held object ≡ Some h
  pub from : (object : ℕ) (h : HeldObject) → Of h → finite.get s'.held object ≡ Some h → finite.get s.held object ≡ Some h
  pub live : s'.live ≡ s.live

-- those of a memory type, and its fit chunks

abbrev pub AgreeOnType : State → State → ℕ → Type 0
AgreeOnType s s' t = AgreeOn (λ h. h.memory_type ≡ t) s s'

abbrev pub AgreeOnFits : State → State → ℕ → Type 0
AgreeOnFits s s' t = AgreeOn (λ h. (h.memory_type ≡ t) × (h.kind ≡ FitChunk)) s s'

pub agree_back : {Of : HeldObject → Type 0} {s s' : State} → AgreeOn Of s s' → AgreeOn Of s' s
agree_back agree = record { to = agree.from; from = agree.to; live = sym agree.live }

agree_on_fits : {s s' : State} {t : ℕ} → AgreeOnType s s' t → AgreeOnFits s s' t
agree_on_fits agree = record { to = λ object h of. agree.to object h of.0; from = λ object h of. agree.from object h of.0; live = agree.live }

-- where none of these is among those that went
pub agree_without : (Of : HeldObject → Type 0) (s s' : State) (gone : List ℕ) → s'.held ≡ without_all s.held gone → s'.live ≡ s.live
    → ((object : ℕ) (h : HeldObject) → Contains gone object → finite.get s.held object ≡ Some h → Of h → ⊥) → AgreeOn Of s s'
agree_without Of s s' gone held live other = record {
  to = λ object h of is. ap (λ (m : Held). finite.get m object) held ∙ kept_is s.held gone object (λ has. other object h has is of) ∙ is;
  from = λ object h of is. (kept_was s.held gone object h (ap (λ (m : Held). finite.get m object) (sym held) ∙ is)).1;
  live = live;
}

was_live : {Of : HeldObject → Type 0} {s s' : State} → AgreeOn Of s s' → (span : Span) → IsLive s' span → IsLive s span
was_live agree span = subst (λ (live : set.FinSet span_cmp). IsTrue (set.contains live span)) agree.live

-- Chunks of its free list.

module _ {s s' : State} {t : ℕ} (agree : AgreeOnType s s' t) where
  chunk_agrees : (number object : ℕ) → IsListChunk s t number object → IsListChunk s' t number object
  chunk_agrees number object is = record { chunk = is.chunk; held = agree.to object is.chunk is.of_type is.held; of_type = is.of_type; of_kind = is.of_kind }

  free_agrees : (number at : ℕ) → IsFreeInChunk s t number at → IsFreeInChunk s' t number at
  free_agrees number at (object, free) = (
    object,
    record {
      chunk = free.chunk;
      held = agree.to object free.chunk free.of_type free.held;
      of_type = free.of_type;
      of_kind = free.of_kind;
      inside = free.inside;
      unused = λ span live. free.unused span (was_live agree span live);
    },
  )

bytes_agree : {s s' : State} {t : ℕ} → AgreeOnType s s' t → AreSameBytes (IsFreeInChunk s t) (IsFreeInChunk s' t)
bytes_agree agree = record { to = free_agrees agree; from = free_agrees (agree_back agree) }

goes_agrees : {s s' : State} {t : ℕ} → AgreeOnType s s' t → (keep_last : Bool) (number object : ℕ) → ListChunkMayGo s t keep_last number object → ListChunkMayGo s' t keep_last number object
goes_agrees agree keep_last number object may = record {
  chunk = chunk_agrees agree number object may.chunk;
  unused = λ span live. may.unused span (was_live agree span live);
  not_last = λ kept last. may.not_last kept (last.0, (last_run_same (bytes_agree (agree_back agree)) last.0 last.1.0, last.1.1));
}

gone_agrees : {s s' : State} {t : ℕ} → AgreeOnType s s' t → (keep_last : Bool) (gone : List ℕ) → AreChunksReleased s t keep_last gone → AreChunksReleased s' t keep_last gone
gone_agrees agree keep_last gone chunks =
    let back = agree_back agree in
    record {
      rising = λ i j d m n before within first second. chunks.rising i j d m n before within (chunk_agrees back m (get_or gone i d) first) (chunk_agrees back n (get_or gone j d) second);
      all = λ object. (
        (λ has. let may = (chunks.all object).0 has in (may.0, goes_agrees agree keep_last may.0 object may.1)),
        (λ (number, may). (chunks.all object).1 (number, goes_agrees back keep_last number object may)),
      );
    }

-- Its fit chunks.

unused_fit_agrees : {s s' : State} {t : ℕ} → AgreeOnFits s s' t → (object : ℕ) → IsUnusedFit s t object → IsUnusedFit s' t object
unused_fit_agrees agree object is =
    let of = is.chunk in
    record { chunk = record { chunk = of.chunk; held = agree.to object of.chunk (of.of_type, of.of_kind) of.held; of_type = of.of_type; of_kind = of.of_kind }; unused = λ span live. is.unused span (was_live agree span live) }

pub fits_agree : {s s' : State} {t : ℕ} → AgreeOnFits s s' t → (gone : List ℕ) → AreFitChunksReleased s t gone → AreFitChunksReleased s' t gone
fits_agree agree gone fits = record {
  few = fits.few;
  all = λ object. (
    (λ has. unused_fit_agrees agree object ((fits.all object).0 has)),
    (λ unused. (fits.all object).1 (unused_fit_agrees (agree_back agree) object unused)),
  );
}

-- what a cleanup takes of the memory type in one it takes in the other
pub type_agrees : {s s' : State} {t : ℕ} → AgreeOnType s s' t → (gone : List ℕ) → AreReleasedOfType s t gone → AreReleasedOfType s' t gone
type_agrees agree gone of_type = record {
  listed = of_type.listed;
  fitted = of_type.fitted;
  both = of_type.both;
  of_list = gone_agrees agree false of_type.listed of_type.of_list;
  of_fits = fits_agree (agree_on_fits agree) of_type.fitted of_type.of_fits;
}

-- What went of each memory type before one.

-- what is released of a memory type is held of it
pub gone_held : (s : State) (t : ℕ) (gone : List ℕ) → AreReleasedOfType s t gone → (object : ℕ) → Contains gone object → (h : HeldObject) × (finite.get s.held object ≡ Some h) × (h.memory_type ≡ t)
gone_held s t gone of_type object has = elim (Contains-append_cases of_type.listed of_type.fitted object (subst (λ names. Contains names object) of_type.both has)) [
  | inl listed ↦ let is = ((of_type.of_list.all object).0 listed).1.chunk in (is.chunk, is.held, is.of_type)
  | inr fitted ↦ let is = ((of_type.of_fits.all object).0 fitted).chunk in (is.chunk, is.held, is.of_type)
]

-- each is of an earlier memory type
earlier_type : (s : State) (t : ℕ) (gone : List ℕ) → AreAllReleased s t gone → (object : ℕ) (h : HeldObject) → Contains gone object → finite.get s.held object ≡ Some h → h.memory_type < t
earlier_type s zero gone none object h has is = absurd (contains_none object (subst (λ names. Contains names object) none has))
earlier_type s (suc t) gone (earlier, own, both, all, chunks) object h has is =
    elim (Contains-append_cases earlier own object (subst (λ names. Contains names object) both has)) [
      | inl before ↦ omega (arith, earlier_type s t earlier all object h before is)
      | inr now ↦
          let own_held = gone_held s t own chunks object now in
          omega (arith, ap (λ (x : HeldObject). x.memory_type) (one_value _ h own_held.0 is own_held.1), own_held.2)
    ]

-- so the rest of the memory types are as they were
pub agree_after : (s s' : State) (t : ℕ) (gone : List ℕ) → AreAllReleased s t gone → s'.held ≡ without_all s.held gone → s'.live ≡ s.live → AgreeOnType s s' t
agree_after s s' t gone all held live = agree_without _ s s' gone held live (λ object h has is same. omega (arith, earlier_type s t gone all object h has is, same))
