-- Candidates that are tried in turn, and what a refusal comes to.
use Rattle.std.proofs.Common.{◌≡◌, ℕ, suc, ◌<◌, ◌≤◌, Bool, true, false, List, [], ◌∷◌, ◌++◌, ◌/◌, ◌^◌, ◌==◌, bit_and, arith, ap, filter, length, drop, get_or, Option, Result, Err, refl, subst, ◌∙◌, inl, inr, append_assoc, append-nil, drop-cons}
use Rattle.std.proofs.lemmas.Bool.Decides.{nat_tests}
use Rattle.std.proofs.lemmas.Nat.Bits.{shr_and_one}
use Rattle.std.proofs.Math.ListN.{drop_of_length-le}
use Rattle.gpu_alloc_types.specs.Flags.{usage_bits}
use Rattle.gpu_alloc_usage.specs.Ranking.{implied, is_allowed, named, ranking}
use Rattle.gpu_alloc_usage.proofs.Ranking.Candidates.{implied-named}
use Rattle.gpu_alloc_types.specs.Device.{Event, Object}
use Rattle.gpu_alloc_block.specs.State.{State, Block}
use Rattle.gpu_alloc_base.specs.Case as case
use Rattle.gpu_alloc_base.specs.Case.{Case}
use Rattle.gpu_alloc.specs.Allocation.{candidates_of, passing, IsCandidatePassed, CandidateDecides, TriesAll, ObjectsTried}
use Rattle.gpu_alloc.specs.declared.allocator.Ask.{Ask}
use Rattle.gpu_alloc_base.specs.declared.error.AllocationError.{AllocationError}
use Rattle.gpu_alloc_base.specs.declared.error.AllocationError.TheVariants.{OutOfDeviceMemory, OutOfHostMemory, NoCompatibleMemoryTypes, TooManyObjects}
use Rattle.gpu_alloc.specs.declared.request.Request.{Request}

-- The candidates are those of the ranked types ts that are allowed.
module _ (s : State) (asked : ℕ → Ask) (allowed : ℕ → Bool) (ts : List ℕ) where
  -- after these events, what the candidates from rank i on make is what all of them make
  abbrev pub Continues : ℕ → List Event → Type 0
  Continues i es = (fs : List Event) (answer : Result Block AllocationError) (new : State)
      → TriesAll s asked (filter allowed (drop i ts)) fs answer new → TriesAll s asked (filter allowed ts) (es ++ fs) answer new

  -- the type at rank i is a candidate, the first of those from i on
  first : (i : ℕ) → i < length ts → allowed (get_or ts i 0) ≡ true → filter allowed (drop i ts) ≡ get_or ts i 0 ∷ filter allowed (drop (suc i) ts)
  first i lt is = rw (drop-cons ts i 0 lt, is) refl

  pub continues_past : (i : ℕ) (es : List Event) → i < length ts → allowed (get_or ts i 0) ≡ false → Continues i es → Continues (suc i) es
  continues_past i es lt is goes fs answer new h = goes fs answer new (rw (drop-cons ts i 0 lt, is) h)

  pub continues_next : (i : ℕ) (es first_events : List Event) → i < length ts → allowed (get_or ts i 0) ≡ true
      → Continues i es → IsCandidatePassed s (asked (get_or ts i 0)).request (asked (get_or ts i 0)).hint (get_or ts i 0) first_events → Continues (suc i) (es ++ first_events)
  continues_next i es first_events lt is goes passed fs answer new h =
      rw append_assoc (goes (first_events ++ fs) answer new (rw (first i lt is) (inl (first_events, fs, refl, passed, h))))

  -- the candidate at rank i decides, in a state that is equal
  pub continues_decided : (now : State) (i : ℕ) (es fs : List Event) (answer : Result Block AllocationError) (new : State) → now ≡ s → i < length ts
      → allowed (get_or ts i 0) ≡ true → Continues i es → CandidateDecides now (asked (get_or ts i 0)).request (asked (get_or ts i 0)).hint (get_or ts i 0) fs answer new → TriesAll s asked (filter allowed ts) (es ++ fs) answer new
  continues_decided now i es fs answer new same lt is goes decides =
      goes fs answer new (rw (first i lt is) (inr (subst (λ x. CandidateDecides x (asked (get_or ts i 0)).request (asked (get_or ts i 0)).hint (get_or ts i 0) fs answer new) same decides)))

  -- all were passed
  pub continues_end : (i : ℕ) (es : List Event) → length ts ≤ i → Continues i es → TriesAll s asked (filter allowed ts) es (Err OutOfDeviceMemory) s
  continues_end i es le goes =
      let h = goes [] (Err OutOfDeviceMemory) s (rw (drop_of_length-le ts le) (refl, refl, refl)) in rw append-nil at h

-- the same decision, for what is equal
pub decides_as : (now s : State) (a b : Ask) (t u : ℕ) → now ≡ s → a ≡ b → t ≡ u → (es : List Event) (answer : Result Block AllocationError) (new : State) → CandidateDecides now a.request a.hint t es answer new → CandidateDecides s b.request b.hint u es answer new
decides_as now s a b t u same is at es answer new decides =
    subst (λ x. CandidateDecides x b.request b.hint u es answer new) same
    (subst (λ (x : Ask). CandidateDecides now x.request x.hint u es answer new) is
    (subst (λ n. CandidateDecides now a.request a.hint n es answer new) at decides))

-- A refusal.

-- an allocator's refusal is what becomes of the candidate
pub refused_tries : (c : Case Block State) (es : List Event) (e : AllocationError) (new : State) → case.Answers c es (Err e) new → case.Tries c es (passing e) new
refused_tries c es OutOfDeviceMemory new answers = answers
refused_tries c es OutOfHostMemory new answers = answers
refused_tries c es NoCompatibleMemoryTypes new answers = answers
refused_tries c es TooManyObjects new answers = answers

pub nothing_made : (s : State) (e : AllocationError) (after : State) (old new : ℕ → Option Object) → new ≡ old → ObjectsTried s (passing e) after old new
nothing_made s OutOfDeviceMemory after old new same = same
nothing_made s OutOfHostMemory after old new same = same
nothing_made s NoCompatibleMemoryTypes after old new same = same
nothing_made s TooManyObjects after old new same = same

-- What the walk over the ranked types tests.

pub allowed_by_shift : (mask t : ℕ) → bit_and (mask / 2 ^ t) 1 ≡ 1 → is_allowed mask t ≡ true
allowed_by_shift mask t is = rw (← shr_and_one mask t, is) refl

pub not_by_shift : (mask t : ℕ) → (bit_and (mask / 2 ^ t) 1 ≡ 1 → ⊥) → is_allowed mask t ≡ false
not_by_shift mask t is = rw (← shr_and_one mask t) (elim (bit_and (mask / 2 ^ t) 1 == 1) as (λ b. (bit_and (mask / 2 ^ t) 1 == 1) ≡ b → b ≡ false) [
  | true ↦ λ e. absurd (is (grind (arith, nat_tests)))
  | false ↦ λ e. refl
] refl)

-- what the ranked types make that are allowed, ranked for what the request's usage means, its candidates make
pub tries_as_meant : (s : State) (r : Request) (asked : ℕ → Ask) (meant : ℕ) (es : List Event) (answer : Result Block AllocationError) (new : State)
    → meant ≡ implied (usage_bits r.usage) → TriesAll s asked (filter (is_allowed r.memory_types) (ranking (named meant) s.properties.memory_types)) es answer new
    → TriesAll s asked (candidates_of s r) es answer new
tries_as_meant s r asked meant es answer new is h =
    let same : named meant ≡ implied (usage_bits r.usage) = ap named is ∙ implied-named (usage_bits r.usage) in
    subst (λ u. TriesAll s asked (filter (is_allowed r.memory_types) (ranking u s.properties.memory_types)) es answer new) same h
