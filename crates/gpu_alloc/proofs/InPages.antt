-- Whole pages of a granularity: what a request in them asks for, and what is granted for it.
use Rattle.std.proofs.Common.{◌≡◌, ℕ, ◌+◌, ◌-◌, ◌%◌, ◌^◌, ◌<◌, ◌≤◌, ◌↔◌, Bool, true, false, cond, Contains, List, Option, Some, Result, Ok, Err, IfOk, IsTrue, refl, sym, ◌∙◌, subst, arith, inl, inr}
use Rattle.std.specs.Prelude.{max}
use Rattle.std.specs.Int.{is_power_of_two}
use Rattle.std.proofs.lemmas.Bool.{cases_Bool}
use Rattle.std.proofs.lemmas.Nat.{pow_pos}
use Rattle.std.proofs.Math.Nat.{one-mul}
use Rattle.gpu_alloc_types.specs.Device.{Event}
use Rattle.gpu_alloc_base.specs.FreeSpace.{IsMultipleOf, IsPowerOfTwo}
use Rattle.gpu_alloc_base.specs.Sizes.{up}
use Rattle.gpu_alloc_base.specs.declared.error.AllocationError.{AllocationError}
use Rattle.gpu_alloc_base.proofs.ChunkSizes.{up_enough}
use Rattle.gpu_alloc_base.proofs.Multiples.{mod_from_multiple, multiple_below, multiple_from_mod, multiple_of_lower}
use Rattle.gpu_alloc_base.proofs.PowersOfTwo.{bit_of_power, greater_power, power_of_bit}
use Rattle.gpu_alloc_block.specs.State.{Block, State}
use Rattle.gpu_alloc_block.specs.declared.block.Kind.TheVariants.{Dedicated as DedicatedObject}
use Rattle.gpu_alloc.specs.Allocation as allocation
use Rattle.gpu_alloc.specs.Allocation.{AllocatesBy, IsAloneWhereServed, IsExactFit, IsInPages, ask, ask_in_pages, candidates_of, plan_in_pages, serves_alone, strategy}
use Rattle.gpu_alloc.specs.Atoms.{KeepsAtoms}
use Rattle.gpu_alloc.specs.Request.{IsAskable, IsGranularity, in_pages}
use Rattle.gpu_alloc.specs.Sound.{IsSound}
use Rattle.gpu_alloc.specs.declared.allocator.Ask.{Ask}
use Rattle.gpu_alloc.specs.declared.request.Dedicated.{Dedicated}
use Rattle.gpu_alloc.specs.declared.request.Dedicated.TheVariants.{Required}
use Rattle.gpu_alloc.specs.declared.request.Request.{Request}
use Rattle.gpu_alloc.proofs.Decisions.{of_grant}
use Rattle.gpu_alloc.proofs.Granted.{HasKind, IsPlanFor, IsServedBy, IsServedSo, candidate_granted, exact_block, not_alone_kind, not_fit, served_so}

module _ (g : ℕ) (is : IsGranularity g) where
  power : IsPowerOfTwo g
  power = power_of_bit g is.power

  some : 0 < g
  some = omega (arith, power.1, pow_pos power.0)

  pub pages_large : (size : ℕ) → 2 ^ 64 ≤ size + (g - 1) → 2 ^ 64 ≤ up size g
  pages_large size large =
      let whole : IsMultipleOf g (2 ^ 64) = multiple_of_lower g (2 ^ 64) (2 ^ 64) power (64, refl) (omega (arith, is.bound)) (1, sym (one-mul (2 ^ 64))) in
      multiple_below (size + (g - 1)) g (2 ^ 64) some whole large

  -- an alignment of a page at least
  module _ (mask : ℕ) (mask_power : IsPowerOfTwo (mask + 1)) where
    alignment_is : max mask (g - 1) + 1 ≡ max (mask + 1) g
    alignment_is = omega (arith, some)

    greater : IsPowerOfTwo (max mask (g - 1) + 1)
    greater = let both = greater_power (mask + 1) g mask_power power in (both.0, alignment_is ∙ both.1)

    lower : (n offset : ℕ) → IsPowerOfTwo n → n ≤ max mask (g - 1) + 1 → offset % (max mask (g - 1) + 1) ≡ 0 → offset % n ≡ 0
    lower n offset of most is_aligned = mod_from_multiple n offset (multiple_of_lower n (max mask (g - 1) + 1) offset of greater most (multiple_from_mod (max mask (g - 1) + 1) offset is_aligned))

  module _ (address : Bool) (r : Request) (askable : IsAskable address r) where
    mask_power : IsPowerOfTwo (r.align_mask + 1)
    mask_power = power_of_bit (r.align_mask + 1) askable.alignment.power

    pub pages_askable : IsAskable address (in_pages g r)
    pages_askable =
        let whole = greater r.align_mask mask_power in
        record {
          nonempty = omega (arith, askable.nonempty, up_enough r.size g askable.nonempty some);
          alignment = record {
            power = subst (λ n. IsTrue (is_power_of_two n)) (sym whole.1) (bit_of_power whole.0);
            bound = omega (arith, askable.alignment.bound, is.bound, some);
          };
          device_address = askable.device_address;
        }

    pages_aligned : (offset : ℕ) → offset % ((in_pages g r).align_mask + 1) ≡ 0 → offset % (r.align_mask + 1) ≡ 0
    pages_aligned offset = lower r.align_mask mask_power (r.align_mask + 1) offset mask_power (omega arith)

    at_a_page : (offset : ℕ) → offset % ((in_pages g r).align_mask + 1) ≡ 0 → offset % g ≡ 0
    at_a_page offset = lower r.align_mask mask_power g offset power (omega (arith, some))

    pages_enough : r.size ≤ up r.size g
    pages_enough = up_enough r.size g askable.nonempty some

-- A plan by whole pages.

module _ (s : State) (r : Request) (hint : Option Dedicated) (g : ℕ) (is : IsGranularity g) (askable : IsAskable s.properties.buffer_device_address r) where
  abbrev paged : Request
  paged = in_pages g r

  serves_either : (alone : Bool) (t : ℕ) → IsServedBy s r (cond alone (ask r (Some Required) t) (ask paged hint t)).request
  serves_either true t = record { askable = askable; enough = omega arith; aligned = λ offset at. at; candidates = refl }
  serves_either false t = record {
    askable = pages_askable g is s.properties.buffer_device_address r askable;
    enough = pages_enough g is s.properties.buffer_device_address r askable;
    aligned = pages_aligned g is s.properties.buffer_device_address r askable;
    candidates = refl;
  }

  pub is_plan_in_pages : IsPlanFor s r (plan_in_pages s r hint g)
  is_plan_in_pages = record { candidates = refl; serves = λ t. serves_either (serves_alone s paged hint t) t }

  abbrev asks : Bool → ℕ → Ask
  asks alone t = cond alone (ask r (Some Required) t) (ask paged hint t)

  abbrev ServesSo : Bool → ℕ → Block → Type 0
  ServesSo alone t b = IsServedSo (strategy s (asks alone t).request (asks alone t).hint t) s (asks alone t).request t b

  -- an object of its own exactly where whole pages would have one, and of the size as asked
  pub kind_in_pages : (b : Block) → HasKind s (plan_in_pages s r hint g) b → IsAloneWhereServed s paged hint b × (b.kind ≡ DedicatedObject → b.size ≡ r.size)
  unfolding IsAloneWhereServed
  kind_in_pages b of = elim (cases_Bool (serves_alone s paged hint of.t)) [
    | inl alone ↦
        let so : ServesSo true of.t b = subst (λ x. ServesSo x of.t b) alone of.so in
        let own = so.alone refl in (
          subst (λ t. IsTrue (serves_alone s paged hint t) ↔ (b.kind ≡ DedicatedObject)) (sym so.of_type) ((λ _. own.0), (λ _. subst IsTrue (sym alone) refl)),
          λ _. own.1,
        )
    | inr other ↦
        let so : ServesSo false of.t b = subst (λ x. ServesSo x of.t b) other of.so in
        let never : b.kind ≡ DedicatedObject → ⊥ = not_alone_kind b.kind (so.shared other) in (
          subst (λ t. IsTrue (serves_alone s paged hint t) ↔ (b.kind ≡ DedicatedObject)) (sym so.of_type) ((λ alone. absurd (let both : true ≡ false = sym alone ∙ other in cc)), (λ own. absurd (never own))),
          λ own. absurd (never own),
        )
  ]

  -- in a fit chunk as long as whole pages for it are
  pub exact_in_pages : (b : Block) → HasKind s (plan_in_pages s r hint g) b → IsExactFit s paged b
  unfolding IsExactFit
  exact_in_pages b of = elim (cases_Bool (serves_alone s paged hint of.t)) [
    | inl alone ↦
        let so : ServesSo true of.t b = subst (λ x. ServesSo x of.t b) alone of.so in
        λ fit. not_fit b (so.alone refl).0 (λ same. cc) fit
    | inr other ↦
        let so : ServesSo false of.t b = subst (λ x. ServesSo x of.t b) other of.so in
        exact_block s paged (strategy s paged hint of.t) of.t b so
  ]

  pub required_in_pages : hint ≡ Some Required → (answer : Result Block AllocationError) → IfOk answer (HasKind s (plan_in_pages s r hint g)) → IfOk answer (λ b. b.kind ≡ DedicatedObject)
  unfolding IsAloneWhereServed
  required_in_pages required (Err e) is = tt
  required_in_pages required (Ok b) is = (kind_in_pages b is).0.0 (subst (λ d. IsTrue (serves_alone s paged d b.memory_type)) (sym required) refl)

  module _ (sound : IsSound s) (atoms : KeepsAtoms s) where
    in_pages_either : (alone : Bool) (t : ℕ) (fs : List Event) (b : Block) (new : State) → Contains (candidates_of s r) t → allocation.CandidateDecides s (asks alone t).request (asks alone t).hint t fs (Ok b) new → IsInPages g r.size b
    in_pages_either true t fs b new chosen decides shared = absurd (not_alone_kind b.kind shared ((served_so (strategy s r (Some Required) t) s r t fs b new decides.1).alone refl).0)
    in_pages_either false t fs b new chosen decides shared =
        let granted = candidate_granted s paged hint t fs b new sound atoms (pages_askable g is s.properties.buffer_device_address r askable) chosen decides in
        (at_a_page g is s.properties.buffer_device_address r askable b.offset granted.aligned, granted.enough)

    -- one candidate's grant
    pub candidate_in_pages : (t : ℕ) (fs : List Event) (b : Block) (new : State) → Contains (candidates_of s r) t
        → allocation.CandidateDecides s (ask_in_pages s r hint paged t).request (ask_in_pages s r hint paged t).hint t fs (Ok b) new → IsInPages g r.size b
    candidate_in_pages t fs b new chosen decides = in_pages_either (serves_alone s paged hint t) t fs b new chosen decides

    pub granted_in_pages : (es : List Event) (answer : Result Block AllocationError) (new : State) → AllocatesBy s (plan_in_pages s r hint g) es answer new → IfOk answer (IsInPages g r.size)
    granted_in_pages es (Err e) new h = tt
    granted_in_pages es (Ok b) new h = of_grant s (plan_in_pages s r hint g) b new (λ t fs chosen decides. candidate_in_pages t fs b new chosen decides) es h
