-- What a caller may know of a granted block follows from the decision, by the way in which its candidate is served.
use Rattle.std.proofs.Common.{◌≡◌, ◌≢◌, inl, inr, ℕ, ◌+◌, ◌*◌, ◌-◌, ◌/◌, ◌%◌, ◌^◌, ◌<◌, ◌≤◌, ◌↔◌, true, false, Contains, List, length, Option, Some, None, Result, Ok, Err, IsTrue, refl, sym, ◌∙◌, ap, subst, arith}
use Rattle.std.specs.Prelude.{IfOk, max}
use Rattle.std.proofs.lemmas.Bool.{cases_Bool, cases_eq}
use Rattle.std.proofs.lemmas.Bool.Decides.{nat_tests}
use Rattle.std.proofs.lemmas.Nat.{pow_pos}
use Rattle.std.proofs.Math.Nat.{mul_comm, zero-mod, zero-mul, one-mul}
use Rattle.std.specs.FinMap as map
use Rattle.std.specs.FinSet as set
use Rattle.gpu_alloc_types.specs.Device.{Event}
use Rattle.gpu_alloc_types.specs.Properties.{atom_of, heap_size}
use Rattle.gpu_alloc_base.specs.Case as case
use Rattle.gpu_alloc_base.specs.FreeRuns.{IsFreeRun, tail_start}
use Rattle.gpu_alloc_base.specs.FreeSpace.{IsIn, IsMultipleOf, IsPowerOfTwo}
use Rattle.gpu_alloc_base.specs.Sizes.{minimal_size}
use Rattle.gpu_alloc_base.specs.declared.error.AllocationError.{AllocationError}
use Rattle.gpu_alloc_base.proofs.ChunkSizes.{cut_whole, grown_is_least, up_enough}
use Rattle.gpu_alloc_base.proofs.FreeRuns.{tail_below, tail_ends}
use Rattle.gpu_alloc_base.proofs.Maps.{one_value, own_inserted}
use Rattle.gpu_alloc_base.proofs.Multiples.{mod_from_multiple, multiple_down, multiple_min, multiple_of_lower, multiple_rest, multiple_times}
use Rattle.gpu_alloc_base.proofs.PowersOfTwo.{greater_power, next_is_enough, power_of_bit}
use Rattle.gpu_alloc_buddy.specs.Buddy.{Fits}
use Rattle.gpu_alloc.specs.Allocation.{AllocatesBy, AloneIsTold, CandidateDecides, ExactIsTold, IsAloneWhereServed, IsAsAsked, IsCandidate, IsExactFit, IsGranted, Plan, candidates_of, fits_a_chunk, is_alone, plan, serves_alone, strategy}
use Rattle.gpu_alloc.specs.Atoms.{KeepsAtoms, IsNextFitChunk, IsNextListChunk}
use Rattle.gpu_alloc.specs.BuddySharing.{IsPieceFront, buddy_question, buddy_size, object_front, with_span}
use Rattle.gpu_alloc.specs.Candidates.{candidate}
use Rattle.gpu_alloc.specs.FreeBytes.{IsFreeByte}
use Rattle.gpu_alloc.specs.FitSharing.{IsInFreeRun, first_fit, fit_alignment, fit_question, fit_size, fits_first, grain_of, largest_fit_chunk, next_fit_chunk}
use Rattle.gpu_alloc.specs.FreeListSharing.{IsFreeInChunk, IsListChunk, IsRunTail, largest_list_chunk, latest_number, list_alignment, list_question, list_size, next_list_chunk, tail_of}
use Rattle.gpu_alloc.specs.Request.{IsAskable}
use Rattle.gpu_alloc.specs.Sound.{IsSound}
use Rattle.gpu_alloc_block.specs.State.{AreSpansApart, Block, HeldObject, IsLive, Span, State, granted_block, is_shared, span_of}
use Rattle.gpu_alloc.specs.declared.allocator.Strategy.{Strategy}
use Rattle.gpu_alloc.specs.declared.allocator.Strategy.TheVariants.{OwnObject, InBuddyChunk, InFreeList, InFitChunk}
use Rattle.gpu_alloc_block.specs.declared.block.Kind.{Kind}
use Rattle.gpu_alloc_block.specs.declared.block.Kind.TheVariants.{Dedicated as DedicatedObject, Imported, BuddyChunk, FreeListChunk, FitChunk}
use Rattle.gpu_alloc.specs.declared.request.Dedicated.{Dedicated}
use Rattle.gpu_alloc.specs.declared.request.Dedicated.TheVariants.{Required}
use Rattle.gpu_alloc.specs.declared.request.Request.{Request}
use Rattle.gpu_alloc.proofs.Decisions.{candidate_known, of_grant}
use Rattle.gpu_alloc.proofs.Fits.Small.{first_in_largest}
use Rattle.gpu_alloc.proofs.Shared.Free.{AreFreeBeside, run_ends}
use Rattle.gpu_alloc.proofs.Soundness.{ranges_apart}
use Rattle.gpu_alloc.proofs.Strategies.{fits_chosen, fits_its_list}
use Rattle.gpu_alloc_block.proofs.LiveSpans.{live_new}

module _ (s : State) (r : Request) (sound : IsSound s) where
  -- A block of a kind, in an object of a memory type.

  module _ (t : ℕ) (kind : Kind) (span : Span) where
    -- what its size and offset have to be
    pub record IsSized : Type 0 where
      pub enough : r.size ≤ span.size
      pub aligned : span.offset % (r.align_mask + 1) ≡ 0
      pub whole_atoms : is_shared kind ≡ true → (span.offset % atom_of s.properties t ≡ 0) × (span.size % atom_of s.properties t ≡ 0)
      pub buddy : kind ≡ BuddyChunk → IsPowerOfTwo span.size × IsMultipleOf span.size span.offset
      pub made : kind ≢ Imported
      pub some_atom : 0 < atom_of s.properties t
      pub candidate : IsCandidate s r t

    -- it lies in this object, apart from all that is live
    lies_granted : (new : State) (h : HeldObject) → IsSized → map.get new.held span.object ≡ Some h → span.offset + span.size ≤ h.counted → h.memory_type ≡ t → h.kind ≡ kind → IsLive new span → ((other : Span) → IsLive s other → AreSpansApart other span) → IsGranted s r new (granted_block s t kind span)
    lies_granted new h sized found fits of_type of_kind live apart = record {
      enough = sized.enough;
      aligned = sized.aligned;
      whole_atoms = sized.whole_atoms;
      buddy = sized.buddy;
      inside = (h, found, fits);
      unmapped = refl;
      made = sized.made;
      some_atom = sized.some_atom;
      candidate = sized.candidate;
      props = refl;
      atom = refl;
      owned = record { live = live; held = (h, found, of_type, of_kind) };
      was_free = apart;
    }

    -- its bytes were free
    in_place : IsSized → 0 < span.size → ((at : ℕ) → IsIn span.offset span.size at → IsFreeByte s t kind span.object at) → IsGranted s r (with_span s span) (granted_block s t kind span)
    in_place sized some free =
        let last = free (span.offset + span.size - 1) (record { from = omega (arith, some); to = omega (arith, some) }) in
        lies_granted (with_span s span) last.chunk sized last.held (omega (arith, some, last.inside)) last.of_type last.of_kind (live_new s.live span) (λ other live. elim (cases_eq other.object span.object) [
          | inl same ↦ inr (ranges_apart other.offset other.size span.offset span.size (sound.nonempty other live) some (λ at also inside. (free at inside).unused other live same also))
          | inr apart ↦ inl apart
        ])

    -- its object is new
    in_new_object : (new : State) (counted : ℕ) → IsSized → span.offset + span.size ≤ counted → map.get s.held span.object ≡ None
        → new.held ≡ map.insert s.held span.object (record { memory_type = t; counted = counted; kind = kind }) → new.live ≡ set.insert s.live span → IsGranted s r new (granted_block s t kind span)
    in_new_object new counted sized fits free held live =
        let h : HeldObject = record { memory_type = t; counted = counted; kind = kind } in
        lies_granted new h sized (ap (λ m. map.get m span.object) held ∙ own_inserted s.held span.object h) fits refl refl (subst (λ x. IsTrue (set.contains x span)) (sym live) (live_new s.live span))
        (λ other there. inl (λ same. let was = (sound.inside other there).1 in let none = ap (map.get s.held) same ∙ free in absurd (cc)))

  module _ (atoms : KeepsAtoms s) (asked : IsAskable s.properties.buffer_device_address r) (t : ℕ) (chosen : IsCandidate s r t) where
    abbrev atom : ℕ
    atom = atom_of s.properties t

    align : IsPowerOfTwo (r.align_mask + 1)
    align = power_of_bit (r.align_mask + 1) asked.alignment.power

    some_atom : 0 < atom
    some_atom = let power = atoms.atom t in omega (arith, power.1, pow_pos power.0)

    -- An object of its own.

    own_sized : (object : ℕ) → IsSized t DedicatedObject (object_front object r.size)
    own_sized object = record {
      enough = omega arith;
      aligned = zero-mod (r.align_mask + 1);
      whole_atoms = λ shared. absurd (cc);
      buddy = λ chunk. absurd (cc);
      made = λ import. absurd (cc);
      some_atom = some_atom;
      candidate = chosen;
    }

    -- A block of a buddy chunk.

    module _ (fits : Fits (buddy_size s r t)) where
      rounded : IsPowerOfTwo (buddy_size s r t) × (max (max r.size (r.align_mask + 1)) atom ≤ buddy_size s r t)
      rounded = let next = next_is_enough (max (max r.size (r.align_mask + 1)) (max atom (minimal_size s.config (heap_size s.properties t)))) (omega (arith, fits)) in (next.0, omega (arith, next.1))

      buddy_some : 0 < buddy_size s r t
      buddy_some = omega (arith, rounded.0.1, pow_pos rounded.0.0)

      buddy_sized : (span : Span) → span.size ≡ buddy_size s r t → IsMultipleOf (buddy_size s r t) span.offset → IsSized t BuddyChunk span
      buddy_sized span of_size multiple = record {
        enough = omega (arith, rounded.1, of_size);
        aligned = mod_from_multiple (r.align_mask + 1) span.offset (multiple_of_lower (r.align_mask + 1) (buddy_size s r t) span.offset align rounded.0 (omega (arith, rounded.1)) multiple);
        whole_atoms = λ _. (
          mod_from_multiple atom span.offset (multiple_of_lower atom (buddy_size s r t) span.offset (atoms.atom t) rounded.0 (omega (arith, rounded.1)) multiple),
          mod_from_multiple atom span.size (multiple_of_lower atom (buddy_size s r t) span.size (atoms.atom t) rounded.0 (omega (arith, rounded.1)) (1, of_size ∙ sym (one-mul (buddy_size s r t)))),
        );
        buddy = λ _. subst (λ n. IsPowerOfTwo n × IsMultipleOf n span.offset) (sym of_size) (rounded.0, multiple);
        made = λ import. absurd (cc);
        some_atom = some_atom;
        candidate = chosen;
      }

      front_granted : (span : Span) → IsPieceFront s t (buddy_size s r t) span → IsGranted s r (with_span s span) (granted_block s t BuddyChunk span)
      front_granted span front =
          let place = front.piece.place in
          in_place t BuddyChunk span (buddy_sized span front.of_size (multiple_of_lower (buddy_size s r t) front.length span.offset rounded.0 place.power front.enough place.aligned)) (omega (arith, front.of_size, buddy_some))
          (λ at inside. place.free at (record { from = inside.from; to = omega (arith, inside.to, front.of_size, front.enough) }))

    -- A block of a free list's chunk.

    abbrev size : ℕ
    size = list_size s r t

    abbrev alignment : ℕ
    alignment = list_alignment s r t

    tail_sized : (number : ℕ) (span : Span) (end : ℕ) → size ≤ end → IsMultipleOf atom end → span.offset ≡ tail_start size alignment end → span.offset + span.size ≡ end → IsSized t (FreeListChunk number) span
    tail_sized number span end enough whole start ends =
        let greater = greater_power (r.align_mask + 1) atom align (atoms.atom t) in
        let starts : IsMultipleOf alignment span.offset = subst (IsMultipleOf alignment) (sym start) (multiple_down (end - size) alignment) in
        let first = multiple_of_lower atom alignment span.offset (atoms.atom t) greater (omega arith) starts in
        record {
          enough = omega (arith, up_enough r.size atom asked.nonempty some_atom, enough, start, ends, tail_below size alignment end);
          aligned = mod_from_multiple (r.align_mask + 1) span.offset (multiple_of_lower (r.align_mask + 1) alignment span.offset align greater (omega arith) starts);
          whole_atoms = λ _. (mod_from_multiple atom span.offset first, mod_from_multiple atom span.size (multiple_rest atom span.offset span.size first (subst (IsMultipleOf atom) (sym ends) whole)));
          buddy = λ chunk. absurd (cc);
          made = λ import. absurd (cc);
          some_atom = some_atom;
          candidate = chosen;
        }

    -- a free run ends at whole atoms: where its chunk does, or where a live span begins
    run_whole : (number start end : ℕ) → IsFreeRun (IsFreeInChunk s t) number start end → IsMultipleOf atom end
    run_whole number start end run =
        let first = run.free start (omega arith) run.nonempty in
        let chunk : IsListChunk s t number first.0 = record { chunk = first.1.chunk; held = first.1.held; of_type = first.1.of_type; of_kind = first.1.of_kind } in
        let object_is : (at : ℕ) (free : IsFreeInChunk s t number at) → free.0 ≡ first.0 = λ at free.
        sound.numbers t number free.0 first.0 (record { chunk = free.1.chunk; held = free.1.held; of_type = free.1.of_type; of_kind = free.1.of_kind }) chunk in
        let beside : AreFreeBeside (IsFreeInChunk s t) number first.1.chunk.counted (λ span. IsLive s span × (span.object ≡ first.0)) = record {
          inside = λ at free. let same = one_value _ free.1.chunk first.1.chunk free.1.held (ap (map.get s.held) (object_is at free) ∙ first.1.held) in omega (arith, free.1.inside, ap (λ (h : HeldObject). h.counted) same);
          unused = λ at free span has. free.1.unused span has.0 (has.1 ∙ sym (object_is at free));
          free = λ at inside unused. (first.0, record { chunk = chunk.chunk; held = chunk.held; of_type = chunk.of_type; of_kind = chunk.of_kind; inside = inside; unused = λ span live named. unused span (live, named) });
        } in
        run_ends beside atom start end run (λ span has. atoms.begins t number span (subst (IsListChunk s t number) (sym has.1) chunk) has.0) (atoms.ends t number first.0 chunk)

    tail_granted : (number : ℕ) (span : Span) → IsRunTail s t size alignment number span → IsGranted s r (with_span s span) (granted_block s t (FreeListChunk number) span)
    tail_granted number span tail =
        let run = tail.run in
        let sized = tail_sized number span run.end tail.last.room.enough (run_whole run.chunk run.start run.end tail.last.run) tail.start tail.end in
        in_place t (FreeListChunk number) span sized (omega (arith, sized.enough, asked.nonempty)) (λ at inside.
        let free = tail.last.run.free at (omega (arith, inside.from, tail.start, tail.last.room.from)) (omega (arith, inside.to, tail.end)) in
        let byte = subst (λ n. IsFreeByte s t (FreeListChunk n) free.0 at) tail.in_chunk free.1 in
        let same : free.0 ≡ span.object = sound.numbers t number free.0 span.object (record { chunk = byte.chunk; held = byte.held; of_type = byte.of_type; of_kind = byte.of_kind }) tail.chunk in
        subst (λ o. IsFreeByte s t (FreeListChunk number) o at) same byte)

    -- A block of a fit chunk.

    abbrev g : ℕ
    g = grain_of s t

    whole_grain : IsPowerOfTwo g
    whole_grain = greater_power 256 atom (8, refl) (atoms.atom t)

    fit_sized : (span : Span) → span.size ≡ fit_size s r t → IsMultipleOf (fit_alignment s r t) span.offset → IsSized t FitChunk span
    fit_sized span of_size starts =
        let greater = greater_power (r.align_mask + 1) g align whole_grain in
        let whole : IsMultipleOf g (fit_size s r t) = ((r.size + (g - 1)) / g, refl) in
        record {
          enough = omega (arith, up_enough r.size g asked.nonempty (omega arith), of_size);
          aligned = mod_from_multiple (r.align_mask + 1) span.offset (multiple_of_lower (r.align_mask + 1) (fit_alignment s r t) span.offset align greater (omega arith) starts);
          whole_atoms = λ _. (
            mod_from_multiple atom span.offset (multiple_of_lower atom (fit_alignment s r t) span.offset (atoms.atom t) greater (omega arith) starts),
            mod_from_multiple atom span.size (subst (IsMultipleOf atom) (sym of_size) (multiple_of_lower atom g (fit_size s r t) (atoms.atom t) whole_grain (omega arith) whole)),
          );
          buddy = λ chunk. absurd (cc);
          made = λ import. absurd (cc);
          some_atom = some_atom;
          candidate = chosen;
        }

    fit_granted : (span : Span) → IsInFreeRun s t (fit_size s r t) (fit_alignment s r t) span → IsGranted s r (with_span s span) (granted_block s t FitChunk span)
    fit_granted span fitting =
        let sized = fit_sized span fitting.exact fitting.aligned in
        in_place t FitChunk span sized (omega (arith, sized.enough, asked.nonempty)) (λ at inside. fitting.free at inside.from inside.to)

    -- what is asked for a new chunk is enough
    asked_fitting : IsNextFitChunk s t → fit_size s r t ≤ largest_fit_chunk s t → fit_size s r t ≤ (fit_question s t (fit_size s r t)).size
    asked_fitting next fits =
        let some = up_enough r.size g asked.nonempty (omega arith) in
        (grown_is_least (next_fit_chunk s t) (largest_fit_chunk s t) (fit_size s r t) next.some next.most next.bound fits).enough

    -- what is asked for a new chunk is enough, and of whole atoms
    asked_whole : IsNextListChunk s t → size ≤ largest_list_chunk s t → (size ≤ (list_question s t size).size) × IsMultipleOf atom (list_question s t size).size
    asked_whole next fits =
        let least = grown_is_least (next_list_chunk s t) (largest_list_chunk s t) size next.some next.most next.bound fits in
        let k : ℕ = least.product.0 in
        let times : IsMultipleOf atom (next_list_chunk s t * 2 ^ k) = subst (IsMultipleOf atom) (mul_comm (2 ^ k) (next_list_chunk s t)) (multiple_times atom (next_list_chunk s t) (2 ^ k) next.whole) in
        (least.enough, subst (IsMultipleOf atom) (sym least.product.1) (multiple_min atom (next_list_chunk s t * 2 ^ k) (largest_list_chunk s t) times (cut_whole (heap_size s.properties t) atom _)))

    -- The candidate.

    granted_by : (w : Strategy) (es : List Event) (b : Block) (new : State) → t < length s.properties.memory_types → (InFreeList ≡ w → fits_a_chunk s r t ≡ true) → (InFitChunk ≡ w → fits_first s r t ≡ true) → case.Decides (candidate w s r t) es (Ok b) new → IsGranted s r new b
    granted_by OwnObject es b new known fits first (inl gives) = absurd gives.place
    granted_by OwnObject es b new known fits first (inr gives) =
        let span = object_front b.object r.size in
        let c = candidate OwnObject s r t in
        rw gives.state (subst (λ x. IsGranted s r (c.with_object x) x) (sym gives.place.is) (in_new_object t DedicatedObject span (c.with_object (granted_block s t DedicatedObject span)) r.size (own_sized b.object) (omega arith) gives.place.was_free refl refl))
    granted_by InBuddyChunk es b new known fits first (inl gives) = rw gives.state (subst (IsGranted s r (with_span s (span_of b))) (sym gives.place.is) (front_granted gives.fits (span_of b) gives.place.front))
    granted_by InBuddyChunk es b new known fits first (inr gives) =
        let size = buddy_size s r t in
        let span = object_front b.object size in
        let c = candidate InBuddyChunk s r t in
        rw gives.state (subst (λ x. IsGranted s r (c.with_object x) x) (sym gives.place.is) (in_new_object t BuddyChunk span (c.with_object (granted_block s t BuddyChunk span)) (buddy_question s t size).size
        (buddy_sized gives.asks.has.fits span refl (0, sym (zero-mul size))) (omega arith) gives.place.was_free refl refl))
    granted_by InFreeList es b new known fits first (inl gives) = rw gives.state (subst (IsGranted s r (with_span s (span_of b))) (sym gives.place.is) (tail_granted gives.place.number (span_of b) gives.place.tail))
    granted_by InFreeList es b new known fits first (inr gives) =
        let whole = (list_question s t size).size in
        let span = tail_of b.object whole size alignment in
        let number = latest_number s t + 1 in
        let c = candidate InFreeList s r t in
        let fit : fits_a_chunk s r t ≡ true = fits refl in
        let enough = asked_whole (atoms.next t known) (grind (arith, nat_tests)) in
        let ends = tail_ends size alignment whole in
        rw gives.state (subst (λ x. IsGranted s r (c.with_object x) x) (sym gives.place.is) (in_new_object t (FreeListChunk number) span (c.with_object (granted_block s t (FreeListChunk number) span)) whole
        (tail_sized number span whole enough.0 enough.1 refl ends) (omega (arith, ends)) gives.place.was_free refl refl))
    granted_by InFitChunk es b new known fits first (inl gives) = rw gives.state (subst (IsGranted s r (with_span s (span_of b))) (sym gives.place.is) (fit_granted (span_of b) gives.place.fitting))
    granted_by InFitChunk es b new known fits first (inr gives) =
        let size = fit_size s r t in
        let span = object_front b.object size in
        let c = candidate InFitChunk s r t in
        let small : fits_first s r t ≡ true = first refl in
        let below : size ≤ first_fit s.config (heap_size s.properties t) g = grind (arith, nat_tests) in
        let enough = asked_fitting (atoms.next_fit t known) (omega (arith, below, first_in_largest s.config (heap_size s.properties t) g (omega arith))) in
        rw gives.state (subst (λ x. IsGranted s r (c.with_object x) x) (sym gives.place.is) (in_new_object t FitChunk span (c.with_object (granted_block s t FitChunk span)) (fit_question s t size).size
        (fit_sized span refl (0, sym (zero-mul (fit_alignment s r t)))) (omega (arith, enough)) gives.place.was_free refl refl))

-- The whole allocation.

-- what each candidate is asked serves the request: as many bytes or more, as aligned or more, of the same memory types
pub record IsServedBy (s : State) (r q : Request) : Type 0 where
  pub askable : IsAskable s.properties.buffer_device_address q
  pub enough : r.size ≤ q.size
  pub aligned : (offset : ℕ) → offset % (q.align_mask + 1) ≡ 0 → offset % (r.align_mask + 1) ≡ 0
  pub candidates : candidates_of s q ≡ candidates_of s r

pub granted_as : (s : State) (r q : Request) (new : State) (b : Block) → IsServedBy s r q → IsGranted s q new b → IsGranted s r new b
unfolding IsCandidate
granted_as s r q new b serves is = record {
  enough = omega (arith, is.enough, serves.enough);
  aligned = serves.aligned b.offset is.aligned;
  whole_atoms = is.whole_atoms;
  buddy = is.buddy;
  inside = is.inside;
  unmapped = is.unmapped;
  made = is.made;
  candidate = subst (λ ts. Contains ts b.memory_type) serves.candidates is.candidate;
  props = is.props;
  atom = is.atom;
  some_atom = is.some_atom;
  owned = is.owned;
  was_free = is.was_free;
}

-- one candidate's grant
pub candidate_granted : (s : State) (r : Request) (hint : Option Dedicated) (t : ℕ) (es : List Event) (b : Block) (new : State) → IsSound s → KeepsAtoms s → IsAskable s.properties.buffer_device_address r → Contains (candidates_of s r) t
    → CandidateDecides s r hint t es (Ok b) new → IsGranted s r new b
unfolding IsCandidate
candidate_granted s r hint t es b new sound atoms askable chosen decides =
    granted_by s r sound atoms askable t chosen (strategy s r hint t) es b new (candidate_known s r t chosen) (fits_its_list s r hint t) (λ is. (fits_chosen s r hint t is).1) decides.1

-- a plan for the request
pub record IsPlanFor (s : State) (r : Request) (p : Plan) : Type 0 where
  pub candidates : p.candidates ≡ candidates_of s r
  pub serves : (t : ℕ) → IsServedBy s r (p.asked t).request

pub is_plan : (s : State) (r : Request) (hint : Option Dedicated) → IsAskable s.properties.buffer_device_address r → IsPlanFor s r (plan s r hint)
is_plan s r hint askable = record { candidates = refl; serves = λ t. record { askable = askable; enough = omega arith; aligned = λ offset is. is; candidates = refl } }

module _ (s : State) (r : Request) (p : Plan) (for : IsPlanFor s r p) (sound : IsSound s) (atoms : KeepsAtoms s) where
  pub allocates_granted : (es : List Event) (answer : Result Block AllocationError) (new : State) → AllocatesBy s p es answer new → IfOk answer (IsGranted s r new)
  allocates_granted es (Err e) new h = tt
  allocates_granted es (Ok b) new h = of_grant s p b new (λ t fs chosen decides.
      let a = p.asked t in
      let serves = for.serves t in
      let own : Contains (candidates_of s a.request) t = subst (λ ts. Contains ts t) (for.candidates ∙ sym serves.candidates) chosen in
      granted_as s r a.request new b serves (candidate_granted s a.request a.hint t fs b new sound atoms serves.askable own decides)) es h

-- By which kind of object a block is served.

-- an object of its own, of the very size, or a shared one, in a fit chunk of the very size in whole grains
pub record IsServedSo (w : Strategy) (s : State) (r : Request) (t : ℕ) (b : Block) : Type 0 where
  pub of_type : b.memory_type ≡ t
  pub alone : is_alone w ≡ true → (b.kind ≡ DedicatedObject) × (b.size ≡ r.size)
  pub shared : is_alone w ≡ false → is_shared b.kind ≡ true
  pub exact : b.kind ≡ FitChunk → IsAsAsked s r t b

pub not_fit : {X : Type 0} (b : Block) {kind : Kind} → b.kind ≡ kind → (kind ≡ FitChunk → ⊥) → b.kind ≡ FitChunk → X
not_fit b is other fit = absurd (other (sym is ∙ fit))

in_chunk : {w : Strategy} {s : State} {r : Request} {t : ℕ} (b : Block) {kind : Kind} → b.memory_type ≡ t → b.kind ≡ kind → is_shared kind ≡ true → is_alone w ≡ false → (b.kind ≡ FitChunk → IsAsAsked s r t b) → IsServedSo w s r t b
in_chunk b typed is chunk other exact = record {
  of_type = typed;
  alone = λ own. (let both = sym own ∙ other in absurd (cc));
  shared = λ _. ap is_shared is ∙ chunk;
  exact = exact;
}

pub served_so : (w : Strategy) (s : State) (r : Request) (t : ℕ) (es : List Event) (b : Block) (new : State) → case.Decides (candidate w s r t) es (Ok b) new → IsServedSo w s r t b
served_so OwnObject s r t es b new (inl gives) = absurd gives.place
served_so OwnObject s r t es b new (inr gives) = record {
  of_type = ap (λ (x : Block). x.memory_type) gives.place.is;
  alone = λ own. (ap (λ (x : Block). x.kind) gives.place.is, ap (λ (x : Block). x.size) gives.place.is);
  shared = λ other. absurd (cc);
  exact = λ fit. not_fit b (ap (λ (x : Block). x.kind) gives.place.is) (λ same. cc) fit;
}
served_so InBuddyChunk s r t es b new (inl gives) = in_chunk b (ap (λ (x : Block). x.memory_type) gives.place.is) (ap (λ (x : Block). x.kind) gives.place.is) refl refl (not_fit b (ap (λ (x : Block). x.kind) gives.place.is) (λ same. cc))
served_so InBuddyChunk s r t es b new (inr gives) = in_chunk b (ap (λ (x : Block). x.memory_type) gives.place.is) (ap (λ (x : Block). x.kind) gives.place.is) refl refl (not_fit b (ap (λ (x : Block). x.kind) gives.place.is) (λ same. cc))
served_so InFreeList s r t es b new (inl gives) = in_chunk b (ap (λ (x : Block). x.memory_type) gives.place.is) (ap (λ (x : Block). x.kind) gives.place.is) refl refl (not_fit b (ap (λ (x : Block). x.kind) gives.place.is) (λ same. cc))
served_so InFreeList s r t es b new (inr gives) = in_chunk b (ap (λ (x : Block). x.memory_type) gives.place.is) (ap (λ (x : Block). x.kind) gives.place.is) refl refl (not_fit b (ap (λ (x : Block). x.kind) gives.place.is) (λ same. cc))
served_so InFitChunk s r t es b new (inl gives) = in_chunk b (ap (λ (x : Block). x.memory_type) gives.place.is) (ap (λ (x : Block). x.kind) gives.place.is) refl refl (λ fit. (gives.place.fitting.exact, gives.place.fitting.aligned))
served_so InFitChunk s r t es b new (inr gives) = in_chunk b (ap (λ (x : Block). x.memory_type) gives.place.is) (ap (λ (x : Block). x.kind) gives.place.is) refl refl (λ fit. (ap (λ (x : Block). x.size) gives.place.is, (0, (let front : b.offset ≡ 0 = ap (λ (x : Block). x.offset) gives.place.is in omega (arith, front)))))

-- in general: by what its memory type was asked
pub record HasKind (s : State) (p : Plan) (b : Block) : Type 0 where
  pub t : ℕ
  pub so : IsServedSo (strategy s (p.asked t).request (p.asked t).hint t) s (p.asked t).request t b

module _ (s : State) (p : Plan) where
  pub allocates_kind : (es : List Event) (answer : Result Block AllocationError) (new : State) → AllocatesBy s p es answer new → IfOk answer (HasKind s p)
  allocates_kind es (Err e) new h = tt
  allocates_kind es (Ok b) new h = of_grant s p b new (λ t fs chosen decides. let a = p.asked t in record { t = t; so = served_so (strategy s a.request a.hint t) s a.request t fs b new decides.1 }) es h

-- what follows of each granted block
pub of_kind : (s : State) (p : Plan) {X : Block → Type 0} (answer : Result Block AllocationError) → ((b : Block) → HasKind s p b → X b) → IfOk answer (HasKind s p) → IfOk answer X
of_kind s p (Ok b) of is = of b is
of_kind s p (Err e) of is = tt

pub not_alone_kind : (kind : Kind) → is_shared kind ≡ true → kind ≡ DedicatedObject → ⊥
not_alone_kind kind shared own = let both = ap is_shared (sym own) ∙ shared in cc

-- whose request was asked for of each
pub alone_is : (s : State) (r : Request) (hint : Option Dedicated) (answer : Result Block AllocationError) → IfOk answer (HasKind s (plan s r hint)) → IfOk answer (IsAloneWhereServed s r hint)
unfolding IsAloneWhereServed
alone_is s r hint (Err e) is = tt
alone_is s r hint (Ok b) is = subst (λ t. IsTrue (serves_alone s r hint t) ↔ (b.kind ≡ DedicatedObject)) (sym is.so.of_type) (
  (λ alone. (is.so.alone (grind (arith, alone))).0),
  λ own. elim (cases_Bool (serves_alone s r hint is.t)) [
    | inl alone ↦ subst IsTrue (sym alone) refl
    | inr other ↦ absurd (not_alone_kind b.kind (is.so.shared other) own)
  ],
)

-- In a fit chunk it is as long as asked.
pub exact_block : (s : State) (r : Request) (w : Strategy) (t : ℕ) (b : Block) → IsServedSo w s r t b → IsExactFit s r b
unfolding IsExactFit
exact_block s r w t b so = λ fit. subst (λ u. IsAsAsked s r u b) (sym so.of_type) (so.exact fit)

pub exact_is : (s : State) (r : Request) (hint : Option Dedicated) (answer : Result Block AllocationError) → IfOk answer (HasKind s (plan s r hint)) → IfOk answer (IsExactFit s r)
exact_is s r hint (Err e) is = tt
exact_is s r hint (Ok b) is = exact_block s r (strategy s r hint is.t) is.t b is.so

-- A required grant has an object of its own.
pub required_granted : (s : State) (r : Request) (hint : Dedicated) → hint ≡ Required → (answer : Result Block AllocationError) → IfOk answer (IsAloneWhereServed s r (Some hint)) → IfOk answer (λ b. b.kind ≡ DedicatedObject)
unfolding IsAloneWhereServed
required_granted s r hint required (Err e) is = tt
required_granted s r hint required (Ok b) is = is.0 (subst (λ d. IsTrue (serves_alone s r (Some d) b.memory_type)) (sym required) refl)

-- by which kind it is served is stated
pub alone_told : AloneIsTold
unfolding IsAloneWhereServed
alone_told s r hint b is = is

-- and how long it is
pub exact_told : ExactIsTold
unfolding IsExactFit
exact_told s r b is = is
