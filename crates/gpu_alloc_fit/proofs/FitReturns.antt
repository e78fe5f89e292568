-- What a return and a cleanup leave of an allocator.
use Rattle.std.proofs.Common.{◌≡◌, ℕ, Option, Some, None, true, sym, ◌∙◌, ap, subst, refl}
use Rattle.std.specs.Prelude.{IfNone, IfSome}
use Rattle.std.specs.FinMap as map
use Rattle.std.specs.FinSet as set
use Rattle.gpu_alloc_base.specs.declared.free_list_block.Slot.{Slot}
use Rattle.gpu_alloc_base.proofs.InHand.{no_chunks, none_in}
use Rattle.gpu_alloc_base.proofs.Maps.{kept_key}
use Rattle.gpu_alloc_base.proofs.Slots.{slot_removed}
use Rattle.gpu_alloc_fit.specs.Fit.{FitState}
use Rattle.gpu_alloc_fit.specs.FitRule.{fit_rule}
use Rattle.gpu_alloc_fit.specs.FitSound.{IsSoundFit}
use Rattle.gpu_alloc_runs.specs.Fits.{PutsBack}
use Rattle.gpu_alloc_runs.specs.Space as spaces
use Rattle.gpu_alloc_runs.specs.Space.{FitSpace, IsLiveSlot, IsSoundFitSpace, IsWhollyFree}
use Rattle.gpu_alloc_shared.specs.Shared.{without_block, without_chunk}
use Rattle.gpu_alloc_shared.proofs.Sized.{sound_less}

-- What a return is, as the rule has it.
module _ {M : Type 0} (object : M → ℕ) (f : FitState) (new : FitSpace) (Is : Slot → Type 0) where
  pub stays_so : (gone : Option (M × ℕ)) → ((slot : Slot) → Is slot → PutsBack object f.space slot gone new)
      → IfNone gone ((slot : Slot) → Is slot → (fit_rule.ReleasedWith f slot → ⊥) × (record f { space = new } ≡ without_block fit_rule f slot))
  stays_so None back = λ slot is. ((back slot is).0, ap (λ s. record f { space = s }) (back slot is).1)
  stays_so (Some gone) back = tt

  pub goes_so : (gone : Option (M × ℕ)) → ((slot : Slot) → Is slot → PutsBack object f.space slot gone new)
      → IfSome gone (λ x. (slot : Slot) → Is slot → fit_rule.ReleasedWith f slot
      × ((map.get f.space.chunks slot.chunk ≡ Some (record { object = object x.0; size = x.1 })) × (record f { space = new } ≡ without_chunk fit_rule (without_block fit_rule f slot) slot.chunk)))
  goes_so None back = tt
  goes_so (Some gone) back = λ slot is. let b = back slot is in (b.0, (b.1.0, ap (λ s. record f { space = s }) b.1.1))

  pub sound_returned : IsSoundFit f → IsSoundFitSpace new → (slot : Slot) (gone : Option (M × ℕ)) → PutsBack object f.space slot gone new → IsSoundFit (record f { space = new })
  sound_returned sound now slot None back =
      sound_less f sound new now (λ k c at. ap (λ (s : FitSpace). map.get s.chunks k) (sym back.1) ∙ at) (λ q live. ((slot_removed f.space.live slot q).0 (subst (λ (s : FitSpace). IsLiveSlot s q) back.1 live)).1)
  sound_returned sound now slot (Some gone) back =
      sound_less f sound new now (λ k c at. (kept_key f.space.chunks slot.chunk k c (ap (λ (s : FitSpace). map.get s.chunks k) (sym back.1.1) ∙ at)).1)
      (λ q live. ((slot_removed f.space.live slot q).0 (subst (λ (s : FitSpace). IsLiveSlot s q) back.1.1 live)).1)

-- What is left when the wholly free chunk is released.
module _ {X : Type 0} (P : Type 0) (Q R : X → Type 0) (f : FitState) (gone : Option X) (new : FitSpace) (sound : IsSoundFit f) (now : IsSoundFitSpace new) where
  pub sound_cleaned : (key : X → ℕ) → IfNone gone (P × (new ≡ f.space)) → IfSome gone (λ x. Q x × (R x × (new ≡ spaces.without_chunk f.space (key x)))) → IsSoundFit (record f { space = new })
  sound_cleaned key stays goes = elim gone as (λ o. IfNone o (P × (new ≡ f.space)) → IfSome o (λ x. Q x × (R x × (new ≡ spaces.without_chunk f.space (key x)))) → IsSoundFit (record f { space = new })) [
    | None ↦ λ is _. rw (is.1) sound
    | Some x ↦ λ _ is. rw (is.1.1) (sound_less f sound (spaces.without_chunk f.space (key x)) (subst IsSoundFitSpace is.1.1 now) (λ k c at. (kept_key f.space.chunks (key x) k c at).1) (λ q live. live))
  ] stays goes

-- where no block is live and no chunk is wholly free, none is held
pub no_rest : (old new : FitSpace) → new.live ≡ old.live → ((key : ℕ) → IsWhollyFree new key → ⊥) → set.len old.live ≡ 0 → map.len new.chunks ≡ 0
no_rest old new live none empty = no_chunks new.chunks (λ key chunk is.
    none key (record { held = rw is refl; unused = λ slot is_live. absurd (none_in old.live empty slot (subst (λ l. set.contains l slot ≡ true) live is_live)) }))
