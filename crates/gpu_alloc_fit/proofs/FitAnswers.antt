-- What follows from an allocator's answer to a request: what is sound stays so, and what is known of the block.
use Rattle.std.proofs.Common.{◌≡◌, inl, inr, ℕ, ◌+◌, ◌%◌, ◌<◌, ◌≤◌, List, Option, Some, None, Result, Ok, Err, IfOk, sym, ap, subst, arith}
use Rattle.gpu_alloc_types.specs.Device.{Event}
use Rattle.gpu_alloc_base.specs.Accounts.{Account}
use Rattle.gpu_alloc_base.specs.AlignMasks.{IsAlignMask}
use Rattle.gpu_alloc_base.specs.Case.{Answers, RefusesFirst}
use Rattle.gpu_alloc_base.specs.FreeSpace.{IsMultipleOf}
use Rattle.gpu_alloc_base.specs.Wanted.{Wanted}
use Rattle.gpu_alloc_base.specs.declared.error.AllocationError.{AllocationError}
use Rattle.gpu_alloc_base.specs.declared.free_list_block.Slot.{Slot}
use Rattle.gpu_alloc_base.proofs.ChunkSizes.{up_enough}
use Rattle.gpu_alloc_base.proofs.Multiples.{mod_from_multiple}
use Rattle.gpu_alloc_fit.specs.Fit.{Adds, FitState, IsGranted, case_of, fit_case, chunk_size, next_size, rounded}
use Rattle.gpu_alloc_fit.specs.FitRule.{fit_rule}
use Rattle.gpu_alloc_fit.specs.FitSound.{IsSoundFit}
use Rattle.gpu_alloc_runs.specs.Fits.{TakesFit}
use Rattle.gpu_alloc_runs.specs.Space.{BeginsFitChunk, FitSpace, IsFitting, IsLiveSlot, IsSoundFitSpace, with_chunk, with_slot}
use Rattle.gpu_alloc_shared.specs.Rule.{IsUnheldIn}
use Rattle.gpu_alloc_shared.specs.Shared as shared
use Rattle.gpu_alloc_shared.specs.Shared.{Takes}
use Rattle.gpu_alloc_shared.specs.Sized.{IsOfAtoms, IsWholeAsk, KeepsSettings}
use Rattle.gpu_alloc_shared.specs.declared.store.Ask.{Ask}
use Rattle.gpu_alloc_shared.proofs.Sized.{aligned_by, alignment_is, answers_settings, atom_some, live_atoms, settings_kept, sound_grown, sound_with_slot, whole_by}

-- a block that fits is of whole atoms
fitting_of_atoms : (f : FitState) (ask : Ask) (slot : Slot) → IsSoundFit f → IsWholeAsk f.atom ask → IsFitting f.space ask.size (ask.align_mask + 1) slot → IsOfAtoms f.atom slot
fitting_of_atoms f ask slot s asked fits = (whole_by f ask.align_mask slot.offset s.atom asked.alignment asked.aligned fits.aligned, subst (IsMultipleOf f.atom) (sym fits.exact) asked.whole)

-- A place, as the rule has it.

module _ {E : Type 0} (f : FitState) (ask : Ask) (new : FitSpace) where
  pub takes_so : (answer : Result (Option Slot) E) → TakesFit f.space ask.size (ask.align_mask + 1) answer new → Takes fit_rule f ask answer (record f { space = new })
  takes_so (Ok None) took = (took.0, ap (λ s. record f { space = s }) took.1)
  takes_so (Ok (Some slot)) took = (took.0, ap (λ s. record f { space = s }) took.1)
  takes_so (Err e) took = (took.0, ap (λ s. record f { space = s }) took.1)

  pub sound_taken : (answer : Result (Option Slot) E) → IsSoundFit f → IsWholeAsk f.atom ask → IsSoundFitSpace new → TakesFit f.space ask.size (ask.align_mask + 1) answer new → IsSoundFit (record f { space = new })
  sound_taken (Ok None) s asked now took = rw (took.1) s
  sound_taken (Ok (Some slot)) s asked now took = sound_with_slot f s new now slot (ap (λ (x : FitSpace). x.live) took.1) (fitting_of_atoms f ask slot s asked took.0) (ap (λ (x : FitSpace). x.chunks) took.1)
  sound_taken (Err e) s asked now took = rw (took.1) s

-- A new chunk, as the rule has it.

pub sound_begun : (f : FitState) (ask : Ask) (slot : Slot) (whole : ℕ) (new : FitSpace) → IsSoundFit f → new ≡ with_slot (with_chunk f.space slot whole) slot → IsSoundFitSpace new → IsUnheldIn f.space.chunks slot.object → IsWholeAsk f.atom ask
    → ask.size ≤ f.final_chunk → whole ≡ chunk_size f ask.size → BeginsFitChunk f.space ask.size slot → IsSoundFit (record f { space = new; next_chunk = next_size f whole })
sound_begun f ask slot whole new s new_is now other asked holds whole_is begins =
    let atoms : IsOfAtoms f.atom slot = (subst (IsMultipleOf f.atom) (sym begins.start) (0, omega arith), subst (IsMultipleOf f.atom) (sym begins.exact) asked.whole) in
    sound_grown f s new now slot (ap (λ (x : FitSpace). x.live) new_is) atoms slot.chunk slot.object ask.size whole (ap (λ (x : FitSpace). x.chunks) new_is) other asked.nonempty holds whole_is

-- A request, by the rule and as the allocator tells it: the two have one alignment.

module _ (a : Account FitState) (w : Wanted) (s : IsSoundFit a.allocator) where
  pub answers_so : (es : List Event) (answer : Result Slot AllocationError) (new : Account FitState) → Answers (shared.case_of fit_rule a w) es answer new → Answers (case_of a w) es answer new
  answers_so es answer new = subst (λ n. Answers (fit_case a (rounded a.allocator w) n w.flags) es answer new) (alignment_is a.allocator.atom w.size w.align_mask s.atom)

  pub refuses_so : (refusal : Option AllocationError) → RefusesFirst (shared.case_of fit_rule a w) refusal → RefusesFirst (case_of a w) refusal
  refuses_so refusal = subst (λ n. RefusesFirst (fit_case a (rounded a.allocator w) n w.flags) refusal) (alignment_is a.allocator.atom w.size w.align_mask s.atom)

-- What is known of the block.

module _ (a new : Account FitState) (w : Wanted) (es : List Event) where
  -- the settings stay
  pub answers_keep : (answer : Result Slot AllocationError) → Answers (case_of a w) es answer new → KeepsSettings a.allocator new.allocator
  answers_keep = answers_settings (case_of a w) es new (λ slot. settings_kept a.allocator _ _) (λ slot. settings_kept a.allocator _ _)

  exact_so : (slot : Slot) → Answers (case_of a w) es (Ok slot) new → slot.size ≡ rounded a.allocator w
  exact_so slot (inl gives) = gives.place.exact
  exact_so slot (inr gives) = gives.place.exact

  aligned_so : IsSoundFit a.allocator → IsAlignMask w.align_mask → (slot : Slot) → Answers (case_of a w) es (Ok slot) new → slot.offset % (w.align_mask + 1) ≡ 0
  aligned_so s mask slot (inl gives) = aligned_by a.allocator w slot.offset s.atom mask gives.place.aligned
  aligned_so s mask slot (inr gives) = mod_from_multiple (w.align_mask + 1) slot.offset (subst (IsMultipleOf (w.align_mask + 1)) (sym gives.place.start) (0, omega arith))

  pub answers_granted : 0 < w.size → IsAlignMask w.align_mask → IsSoundFit a.allocator → IsSoundFit new.allocator → (answer : Result Slot AllocationError) → Answers (case_of a w) es answer new
      → IfOk answer (Adds a.allocator new.allocator) → IfOk answer (IsGranted a.allocator w new.allocator)
  answers_granted some mask s sound (Ok slot) told adds =
      let live : IsLiveSlot new.allocator.space slot = adds.own.is_live in
      let there = sound.space.inside slot live in
      let exact = exact_so slot told in
      let enough = up_enough w.size a.allocator.atom some (atom_some a.allocator.atom s.atom) in
      record {
        exact = exact;
        enough = omega (arith, enough, exact);
        aligned = aligned_so s mask slot told;
        whole_atoms = live_atoms a.allocator new.allocator slot (answers_keep (Ok slot) told) sound live;
        inside = (there.chunk, there.held, (there.object, there.inside));
        live = live;
        was_free = λ other is same at in_other in_slot. (adds.before other (record { is_live = is })).apart same at in_other in_slot;
      }
  answers_granted some mask s sound (Err e) told adds = tt
