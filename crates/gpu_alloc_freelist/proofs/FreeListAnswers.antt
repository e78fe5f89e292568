-- What the calls of an allocator do by the rule of free lists: what is sound stays so, and what is known of a granted block.
use Rattle.std.proofs.Common.{◌≡◌, inl, inr, ℕ, ◌+◌, ◌-◌, ◌%◌, ◌<◌, ◌≤◌, List, Option, Some, None, Result, Ok, Err, refl, sym, ◌∙◌, ap, subst, arith}
use Rattle.std.proofs.lemmas.Bool.{cases_lt, cases_eq}
use Rattle.std.specs.Prelude.{IfOk, IfSome}
use Rattle.gpu_alloc_types.specs.Device.{Event}
use Rattle.gpu_alloc_base.specs.Accounts.{Account}
use Rattle.gpu_alloc_base.specs.AlignMasks.{IsAlignMask}
use Rattle.gpu_alloc_base.specs.Case.{Answers, RefusesFirst}
use Rattle.gpu_alloc_base.specs.Chunks.{Chunk}
use Rattle.gpu_alloc_base.specs.FreeRuns.{AreFree, IsFreeRun, tail_start}
use Rattle.gpu_alloc_base.specs.FreeSpace.{IsMultipleOf}
use Rattle.gpu_alloc_base.specs.Wanted.{Wanted}
use Rattle.gpu_alloc_base.specs.declared.error.AllocationError.{AllocationError}
use Rattle.gpu_alloc_base.specs.declared.free_list_block.Slot.{Slot}
use Rattle.gpu_alloc_base.proofs.ChunkSizes.{up_enough}
use Rattle.gpu_alloc_base.proofs.FreeRuns.{run_stops, tail_below, tail_ends}
use Rattle.gpu_alloc_base.proofs.InHand.{grant_adds, grant_leaves, leaves_same}
use Rattle.gpu_alloc_base.proofs.Maps.{one_value, own_inserted}
use Rattle.gpu_alloc_base.proofs.Multiples.{multiple_down, multiple_from_mod, multiple_rest, mod_from_multiple}
use Rattle.gpu_alloc_base.proofs.Slots.{slot_exact, slot_total}
use Rattle.gpu_alloc_freelist.specs.FreeList.{IsTail, TakesTail, first_tail, with_numbered_chunk, with_slot}
use Rattle.gpu_alloc_freelist.specs.FreeListAllocator.{Adds, IsGranted, KeepsSettings, Leaves, case_of, list_case}
use Rattle.gpu_alloc_freelist.specs.FreeListRule.{list_rule}
use Rattle.gpu_alloc_freelist.specs.FreeListSound.{IsSoundFreeList, IsSoundListSpace, LiesInChunk}
use Rattle.gpu_alloc_freelist.specs.FreeListState.{FreeListState, IsFreeIn, IsLiveSlot, ListSpace, alignment, bytes_of, chunk_size, next_size, rounded}
use Rattle.gpu_alloc_shared.specs.Rule.{IsUnheldIn}
use Rattle.gpu_alloc_shared.specs.Shared as shared
use Rattle.gpu_alloc_shared.specs.Shared.{Takes}
use Rattle.gpu_alloc_shared.specs.Sized.{IsOfAtoms, IsWholeAsk}
use Rattle.gpu_alloc_shared.specs.declared.store.Ask.{Ask}
use Rattle.gpu_alloc_shared.proofs.Sized.{aligned_by, alignment_is, answers_settings, atom_some, live_atoms, settings_kept, sound_grown, sound_with_slot, whole_by, whole_holds}
use Rattle.gpu_alloc_freelist.proofs.Spaces.{space_with_slot, none_in_next, space_with_chunk}

-- the bytes of a block were free
abbrev WasFree : ListSpace → Slot → Type 0
WasFree s slot = AreFree (IsFreeIn s) slot.chunk slot.offset (slot.offset + slot.size)

-- Tails.

-- a tail starts at whole atoms
tail_atoms : (l : FreeListState) (ask : Ask) (end : ℕ) → IsSoundFreeList l → IsWholeAsk l.atom ask → IsMultipleOf l.atom (tail_start ask.size (ask.align_mask + 1) end)
tail_atoms l ask end s asked = whole_by l ask.align_mask (tail_start ask.size (ask.align_mask + 1) end) s.atom asked.alignment asked.aligned (multiple_down (end - ask.size) (ask.align_mask + 1))

-- a free run ends at whole atoms: where its chunk does, or where a live block starts
run_ends : (l : FreeListState) (chunk start end : ℕ) → IsSoundFreeList l → IsFreeRun (IsFreeIn l.space) chunk start end → IsMultipleOf l.atom end
run_ends l chunk start end s run =
    let last = run.free (end - 1) (omega (arith, run.nonempty)) (omega (arith, run.nonempty)) in
    let never : (end % l.atom ≡ 0 → ⊥) → ⊥ = λ odd.
    let short : end < last.held.size = elim (cases_lt end last.held.size) [
      | inl lt ↦ lt
      | inr ge ↦
          let same : end ≡ last.held.size = omega (arith, ge, last.inside) in
          absurd (odd (ap (λ x. x % l.atom) same ∙ mod_from_multiple l.atom last.held.size (s.chunks chunk last.held last.is).0))
    ] in
    let next : IsFreeIn l.space chunk end = record {
      held = last.held;
      is = last.is;
      inside = short;
      unused = λ slot live same in_slot. elim (cases_lt slot.offset end) [
        | inl before ↦ last.unused slot live same (record { from = omega (arith, before); to = omega (arith, in_slot.to) })
        | inr not_before ↦
            let here : end ≡ slot.offset = omega (arith, not_before, in_slot.from) in
            odd (ap (λ x. x % l.atom) here ∙ mod_from_multiple l.atom slot.offset (s.slots slot live).0)
      ];
    } in
    run_stops (IsFreeIn l.space) chunk start end run next in
    elim (cases_eq (end % l.atom) 0) [
      | inl none ↦ multiple_from_mod l.atom end none
      | inr some ↦ absurd (never some)
    ]

-- the tail of a run

pub tail_enough : (s : ListSpace) (size alignment : ℕ) (slot : Slot) → IsTail s size alignment slot → size ≤ slot.size
tail_enough s size alignment slot tail = omega (arith, tail.start, tail.end, tail_below size alignment tail.run.end, tail.last.room.enough)

pub tail_free : (s : ListSpace) (size alignment : ℕ) (slot : Slot) → IsTail s size alignment slot → WasFree s slot
tail_free s size alignment slot tail at low high =
    subst (λ k. IsFreeIn s k at) (sym tail.chunk) (tail.last.run.free at (omega (arith, low, tail.start, tail.last.room.from)) (omega (arith, high, tail.end)))

tail_lies : (s : ListSpace) (size alignment : ℕ) (slot : Slot) → 0 < size → IsTail s size alignment slot → LiesInChunk s slot
tail_lies s size alignment slot some tail =
    let enough = tail_enough s size alignment slot tail in
    let last = tail_free s size alignment slot tail (slot.offset + slot.size - 1) (omega (arith, some, enough)) (omega (arith, some, enough)) in
    let same = one_value _ last.held tail.object.0 last.is tail.object.1 in
    record {
      chunk = tail.object.0;
      held = tail.object.1;
      object = tail.object.2;
      nonempty = omega (arith, some, enough);
      inside = omega (arith, some, enough, last.inside, ap (λ (c : Chunk). c.size) same);
    }

tail_of_atoms : (l : FreeListState) (ask : Ask) (slot : Slot) → IsSoundFreeList l → IsWholeAsk l.atom ask → IsTail l.space ask.size (ask.align_mask + 1) slot → IsOfAtoms l.atom slot
tail_of_atoms l ask slot s asked tail =
    let start = subst (IsMultipleOf l.atom) (sym tail.start) (tail_atoms l ask tail.run.end s asked) in
    (start, multiple_rest l.atom slot.offset slot.size start (subst (IsMultipleOf l.atom) (sym tail.end) (run_ends l tail.run.chunk tail.run.start tail.run.end s tail.last.run)))

-- and of a new chunk

module _ (s : ListSpace) (object whole size alignment : ℕ) where
  abbrev first : Slot
  first = first_tail s object whole size alignment

  pub first_enough : size ≤ whole → size ≤ first.size
  first_enough fits = omega (arith, fits, tail_below size alignment whole)

  first_free : IsSoundListSpace s → WasFree (with_numbered_chunk s object whole) first
  first_free k at low high = record {
    held = record { object = object; size = whole };
    is = own_inserted s.chunks (s.latest + 1) (record { object = object; size = whole });
    inside = omega (arith, high, tail_below size alignment whole);
    unused = λ q live same. absurd (none_in_next s k q live same);
  }

  first_lies : 0 < size → size ≤ whole → LiesInChunk (with_numbered_chunk s object whole) first
  first_lies some fits = record {
    chunk = record { object = object; size = whole };
    held = own_inserted s.chunks (s.latest + 1) (record { object = object; size = whole });
    object = refl;
    nonempty = omega (arith, some, first_enough fits);
    inside = omega (arith, tail_below size alignment whole);
  }

first_of_atoms : (l : FreeListState) (ask : Ask) (object whole : ℕ) → IsSoundFreeList l → IsWholeAsk l.atom ask → IsMultipleOf l.atom whole → IsOfAtoms l.atom (first_tail l.space object whole ask.size (ask.align_mask + 1))
first_of_atoms l ask object whole s asked atoms =
    let at : ℕ = tail_start ask.size (ask.align_mask + 1) whole in
    let start = tail_atoms l ask whole s asked in
    (start, multiple_rest l.atom at (whole - at) start (subst (IsMultipleOf l.atom) (sym (tail_ends ask.size (ask.align_mask + 1) whole)) atoms))

-- A place, as the rule has it.

module _ {E : Type 0} (l : FreeListState) (ask : Ask) (new : ListSpace) where
  pub takes_so : (answer : Result (Option Slot) E) → TakesTail l.space ask.size (ask.align_mask + 1) answer new → Takes list_rule l ask answer (record l { space = new })
  takes_so (Ok None) took = (took.0, ap (λ s. record l { space = s }) took.1)
  takes_so (Ok (Some slot)) took = (took.0, ap (λ s. record l { space = s }) took.1)
  takes_so (Err e) took = (took.0, ap (λ s. record l { space = s }) took.1)

  pub sound_taken : (answer : Result (Option Slot) E) → IsSoundFreeList l → IsWholeAsk l.atom ask → TakesTail l.space ask.size (ask.align_mask + 1) answer new → IsSoundFreeList (record l { space = new })
  sound_taken (Ok None) s asked took = rw (took.1) s
  sound_taken (Ok (Some slot)) s asked took =
      let now : IsSoundListSpace new = subst IsSoundListSpace (sym took.1) (space_with_slot l.space slot s.space (tail_lies l.space ask.size (ask.align_mask + 1) slot asked.nonempty took.0) (tail_free l.space ask.size (ask.align_mask + 1) slot took.0)) in
      sound_with_slot l s new now slot (ap (λ (x : ListSpace). x.live) took.1) (tail_of_atoms l ask slot s asked took.0) (ap (λ (x : ListSpace). x.chunks) took.1)
  sound_taken (Err e) s asked took = rw (took.1) s

  pub leaves_taken : (answer : Result (Option Slot) E) → TakesTail l.space ask.size (ask.align_mask + 1) answer new → Leaves l (record l { space = new })
  leaves_taken (Ok None) took = leaves_same bytes_of l.space.live new.live (ap (λ (s : ListSpace). s.live) took.1)
  leaves_taken (Ok (Some slot)) took = grant_leaves slot_total slot_exact bytes_of l.space.live slot new.live (ap (λ (s : ListSpace). s.live) took.1)
  leaves_taken (Err e) took = leaves_same bytes_of l.space.live new.live (ap (λ (s : ListSpace). s.live) took.1)

  -- no block that was live is of these bytes, since chunks have objects of their own
  pub adds_taken : (answer : Result (Option Slot) E) → IsSoundFreeList l → IsWholeAsk l.atom ask → TakesTail l.space ask.size (ask.align_mask + 1) answer new → IfOk answer (λ block. IfSome block (Adds l (record l { space = new })))
  adds_taken (Ok None) s asked took = tt
  adds_taken (Ok (Some slot)) s asked took =
      let tail = took.0 in
      grant_adds slot_total slot_exact bytes_of l.space.live slot new.live (ap (λ (x : ListSpace). x.live) took.1) (omega (arith, asked.nonempty, tail_enough l.space ask.size (ask.align_mask + 1) slot tail))
      (λ other live same at in_other in_slot.
      let there = s.space.inside other live in
      let chunk = s.one_object other.chunk slot.chunk there.chunk tail.object.0 there.held tail.object.1 (sym there.object ∙ same ∙ tail.object.2) in
      (tail_free l.space ask.size (ask.align_mask + 1) slot tail at in_slot.from in_slot.to).unused other live chunk in_other)
  adds_taken (Err e) s asked took = tt

-- A new chunk, as the rule has it.

module _ (l : FreeListState) (ask : Ask) (object whole : ℕ) (slot : Slot) (new : ListSpace) (slot_is : slot ≡ first_tail l.space object whole ask.size (ask.align_mask + 1)) (new_is : new ≡ with_slot (with_numbered_chunk l.space object whole) slot) where
  abbrev grown : FreeListState
  grown = record l { space = new; next_chunk = next_size l whole }

  module _ (s : IsSoundFreeList l) (other : IsUnheldIn l.space.chunks object) (asked : IsWholeAsk l.atom ask) (holds : ask.size ≤ l.final_chunk) (whole_is : whole ≡ chunk_size l ask.size) where
    -- the chunk holds the block
    fits : (ask.size ≤ whole) × ((whole ≤ l.final_chunk) × IsMultipleOf l.atom whole)
    fits = whole_holds l ask.size whole s asked.nonempty holds whole_is

    space_grown : IsSoundListSpace new
    space_grown =
        let with_chunk = space_with_chunk l.space object whole s.space (omega (arith, fits.0, asked.nonempty)) (omega (arith, fits.1.0, s.final_chunk.1)) in
        rw (new_is, slot_is) (space_with_slot (with_numbered_chunk l.space object whole) (first_tail l.space object whole ask.size (ask.align_mask + 1)) with_chunk
        (first_lies l.space object whole ask.size (ask.align_mask + 1) asked.nonempty fits.0) (first_free l.space object whole ask.size (ask.align_mask + 1) s.space))

    pub sound_begun : IsSoundFreeList grown
    sound_begun =
        let atoms : IsOfAtoms l.atom slot = subst (IsOfAtoms l.atom) (sym slot_is) (first_of_atoms l ask object whole s asked fits.1.1) in
        sound_grown l s new space_grown slot (ap (λ (x : ListSpace). x.live) new_is) atoms (l.space.latest + 1) object ask.size whole (ap (λ (x : ListSpace). x.chunks) new_is) other asked.nonempty holds whole_is

    pub adds_begun : Adds l grown slot
    adds_begun =
        grant_adds slot_total slot_exact bytes_of l.space.live slot new.live (ap (λ (x : ListSpace). x.live) new_is)
        (omega (arith, asked.nonempty, first_enough l.space object whole ask.size (ask.align_mask + 1) fits.0, ap (λ (q : Slot). q.size) slot_is))
        (λ q live same at in_q in_slot.
        let there = s.space.inside q live in
        other q.chunk there.chunk there.held (sym there.object ∙ same ∙ ap (λ (x : Slot). x.object) slot_is))

-- A request, by the rule and as the allocator tells it: the two have one alignment.

module _ (a : Account FreeListState) (w : Wanted) (s : IsSoundFreeList a.allocator) where
  pub answers_so : (es : List Event) (answer : Result Slot AllocationError) (new : Account FreeListState) → Answers (shared.case_of list_rule a w) es answer new → Answers (case_of a w) es answer new
  answers_so es answer new = subst (λ n. Answers (list_case a (rounded a.allocator w) n w.flags) es answer new) (alignment_is a.allocator.atom w.size w.align_mask s.atom)

  pub refuses_so : (refusal : Option AllocationError) → RefusesFirst (shared.case_of list_rule a w) refusal → RefusesFirst (case_of a w) refusal
  refuses_so refusal = subst (λ n. RefusesFirst (list_case a (rounded a.allocator w) n w.flags) refusal) (alignment_is a.allocator.atom w.size w.align_mask s.atom)

-- What is known of the block.

module _ (a new : Account FreeListState) (w : Wanted) (es : List Event) where
  -- the settings stay
  pub answers_keep : (answer : Result Slot AllocationError) → Answers (case_of a w) es answer new → KeepsSettings a.allocator new.allocator
  answers_keep = answers_settings (case_of a w) es new (λ slot. settings_kept a.allocator _ _) (λ slot. settings_kept a.allocator _ _)

  module _ (s : IsSoundFreeList a.allocator) (some : 0 < w.size) (mask : IsAlignMask w.align_mask) (fits : rounded a.allocator w ≤ a.allocator.final_chunk) where
    rounded_enough : w.size ≤ rounded a.allocator w
    rounded_enough = up_enough w.size a.allocator.atom some (atom_some a.allocator.atom s.atom)

    enough_so : (slot : Slot) → Answers (case_of a w) es (Ok slot) new → w.size ≤ slot.size
    enough_so slot (inl gives) = omega (arith, rounded_enough, tail_enough a.allocator.space (rounded a.allocator w) (alignment a.allocator w) slot gives.place)
    enough_so slot (inr gives) =
        let whole : ℕ = chunk_size a.allocator (rounded a.allocator w) in
        omega (
          arith,
          rounded_enough,
          first_enough a.allocator.space slot.object whole (rounded a.allocator w) (alignment a.allocator w) (whole_holds a.allocator (rounded a.allocator w) whole s (omega (arith, some, rounded_enough)) fits refl).0,
          ap (λ (q : Slot). q.size) gives.place,
        )

    starts_so : (slot : Slot) (end : ℕ) → slot.offset ≡ tail_start (rounded a.allocator w) (alignment a.allocator w) end → slot.offset % (w.align_mask + 1) ≡ 0
    starts_so slot end is = aligned_by a.allocator w slot.offset s.atom mask (subst (IsMultipleOf (alignment a.allocator w)) (sym is) (multiple_down (end - rounded a.allocator w) (alignment a.allocator w)))

    aligned_so : (slot : Slot) → Answers (case_of a w) es (Ok slot) new → slot.offset % (w.align_mask + 1) ≡ 0
    aligned_so slot (inl gives) = starts_so slot gives.place.run.end gives.place.start
    aligned_so slot (inr gives) = starts_so slot (chunk_size a.allocator (rounded a.allocator w)) (ap (λ (q : Slot). q.offset) gives.place)

    pub answers_granted : IsSoundFreeList new.allocator → (answer : Result Slot AllocationError) → Answers (case_of a w) es answer new → IfOk answer (Adds a.allocator new.allocator) → IfOk answer (IsGranted a.allocator w new.allocator)
    answers_granted sound (Ok slot) told adds =
        let live : IsLiveSlot new.allocator.space slot = adds.own.is_live in
        let there = sound.space.inside slot live in
        record {
          enough = enough_so slot told;
          aligned = aligned_so slot told;
          whole_atoms = live_atoms a.allocator new.allocator slot (answers_keep (Ok slot) told) sound live;
          inside = (there.chunk, there.held, (there.object, there.inside));
          live = live;
          was_free = λ other is same at in_other in_slot. (adds.before other (record { is_live = is })).apart same at in_other in_slot;
        }
    answers_granted sound (Err e) told adds = tt
