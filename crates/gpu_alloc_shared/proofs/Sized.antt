-- Sizes of chunks and requests, as they are computed.
use Rattle.std.proofs.Common.{◌≡◌, inl, inr, List, Some, Result, Ok, Err, ℕ, ◌+◌, ◌-◌, ◌*◌, ◌/◌, ◌%◌, ◌^◌, ◌<◌, ◌≤◌, bit_and, refl, sym, ◌∙◌, ap, subst, arith}
use Rattle.std.specs.FinMap as map
use Rattle.std.specs.FinSet as set
use Rattle.std.specs.Prelude.{IsTrue, max, min}
use Rattle.std.proofs.lemmas.Bool.{cases_lt}
use Rattle.std.proofs.lemmas.Nat.{and_mask, div-add-mod', pow_pos}
use Rattle.std.proofs.Math.Nat.{mul-le-mul_left, mul_comm}
use Rattle.gpu_alloc_types.specs.Device.{Event}
use Rattle.gpu_alloc_base.specs.Accounts.{Account, HeldChunks}
use Rattle.gpu_alloc_base.specs.AlignMasks.{IsAlignMask}
use Rattle.gpu_alloc_base.specs.Case.{Answers, Case}
use Rattle.gpu_alloc_base.specs.Chunks.{Chunk}
use Rattle.gpu_alloc_base.specs.FreeSpace.{IsMultipleOf, IsPowerOfTwo, IsPowerUpTo}
use Rattle.gpu_alloc_base.specs.Sizes.{doubled_chunk, grown_chunk, next_power_of_two, up}
use Rattle.gpu_alloc_base.specs.Slots.{slot_cmp}
use Rattle.gpu_alloc_base.specs.Wanted.{Wanted}
use Rattle.gpu_alloc_base.specs.declared.error.AllocationError.{AllocationError}
use Rattle.gpu_alloc_base.specs.declared.free_list_block.Slot.{Slot}
use Rattle.gpu_alloc_base.proofs.Books.{refused_keeps}
use Rattle.gpu_alloc_base.proofs.ChunkSizes.{cut_twice, enough_pieces, greater_mask, grown_large, grown_small, pieces_few, pieces_is, up_enough}
use Rattle.gpu_alloc_base.proofs.Maps.{inserted_cases}
use Rattle.gpu_alloc_base.proofs.Multiples.{mod_from_multiple, multiple_min, multiple_of_lower, multiple_times}
use Rattle.gpu_alloc_base.proofs.PowersOfTwo.{greater_power, is_next_power_of_two, power_of_bit}
use Rattle.gpu_alloc_base.proofs.Slots.{slot_inserted}
use Rattle.gpu_alloc_shared.specs.Rule.{IsUnheldIn}
use Rattle.gpu_alloc_shared.specs.Sized.{AreSizes, IsOfAtoms, IsSoundSized, IsWholeAsk, KeepsSettings, ServesWhole, SizedState, alignment, chunk_size, next_size, sized_in, whole_ask}

-- a size in whole atoms, by the mask of an atom
pub up_by_mask : (size mask : ℕ) → IsPowerUpTo 62 (mask + 1) → 0 < size → size - 1 - bit_and (size - 1) mask + (mask + 1) ≡ up size (mask + 1)
up_by_mask size mask (k, (bound, power)) some =
    let mask_is : mask ≡ 2 ^ k - 1 = omega (arith, power) in
    let last = size - 1 in
    let low : bit_and last mask ≡ last % (mask + 1) = ap (bit_and last) mask_is ∙ and_mask last k ∙ ap (λ n. last % n) (sym power) in
    let all : last / (mask + 1) * (mask + 1) + last % (mask + 1) ≡ last = div-add-mod' last (mask + 1) in
    let pieces : (last / (mask + 1) + 1) * (mask + 1) ≡ up size (mask + 1) = ap (λ n. n * (mask + 1)) (pieces_is size (mask + 1) some (omega arith)) in
    omega (arith, low, all, pieces)

-- an atom has a byte
pub atom_some : (atom : ℕ) → IsPowerUpTo 62 atom → 0 < atom
atom_some atom power = omega (arith, power.1.1, pow_pos power.0)

-- a request that may be asked for is in whole atoms
pub ask_is_whole : (final atom size mask : ℕ) → IsPowerUpTo 62 atom → ServesWhole final atom size mask → IsWholeAsk atom (whole_ask atom size mask)
ask_is_whole final atom size mask power serves =
    let positive = atom_some atom power in
    let is : atom - 1 + 1 ≡ atom = omega (arith, positive) in
    record {
      nonempty = omega (arith, serves.nonempty, up_enough size atom serves.nonempty positive);
      whole = ((size + (atom - 1)) / atom, refl);
      alignment = greater_mask mask (atom - 1) serves.alignment (power.0, (power.1.0, is ∙ power.1.1));
      aligned = omega (arith, is);
    }

-- the alignment of that request
pub alignment_is : (atom size mask : ℕ) → IsPowerUpTo 62 atom → (whole_ask atom size mask).align_mask + 1 ≡ max (mask + 1) atom
alignment_is atom size mask power = omega (arith, atom_some atom power)

module _ (next final atom : ℕ) (s : AreSizes next final atom) where
  -- the size that is computed
  pub chunk_size_computed : (size power product result : ℕ) → 0 < size → next < size → power ≡ next_power_of_two ((size - 1) / next + 1)
      → product ≡ min (next * power) 18446744073709551615 → result ≡ min product final → result ≡ grown_chunk next final size
  chunk_size_computed size power product result some lt power_is product_is result_is =
      let same : power ≡ next_power_of_two ((size + (next - 1)) / next) = power_is ∙ ap next_power_of_two (pieces_is size next some s.next_chunk.0.1) in
      cut_twice (next * power) final product result s.final_chunk.1 product_is result_is
      ∙ ap (λ p. min (next * p) final) same
      ∙ sym (grown_large next final size lt)

  -- it is enough
  pub chunk_size_enough : (size : ℕ) → 0 < size → size ≤ final → size ≤ grown_chunk next final size
  chunk_size_enough size some fits = elim (cases_lt next size) [
    | inr le ↦ rw (grown_small next final size le) le
    | inl lt ↦
        let pieces = enough_pieces next size s.next_chunk.0.1 in
        let few : (size + (next - 1)) / next ≤ size = omega (arith, pieces_few size next some, pieces_is size next some s.next_chunk.0.1) in
        let power = is_next_power_of_two ((size + (next - 1)) / next) (omega (arith, few, fits, s.final_chunk.1)) in
        let le = mul-le-mul_left next power.enough in
        rw (grown_large next final size lt) (omega (arith, pieces, le, fits))
  ]

  pub chunk_size_bound : (size : ℕ) → grown_chunk next final size ≤ final
  chunk_size_bound size = elim (cases_lt next size) [
    | inr le ↦ rw (grown_small next final size le) s.next_chunk.1
    | inl lt ↦ rw (grown_large next final size lt) (omega arith)
  ]

  pub chunk_size_atoms : (size : ℕ) → IsMultipleOf atom (grown_chunk next final size)
  chunk_size_atoms size = elim (cases_lt next size) [
    | inr le ↦ subst (IsMultipleOf atom) (sym (grown_small next final size le)) s.next_chunk.0.0
    | inl lt ↦
        let power = next_power_of_two ((size + (next - 1)) / next) in
        let product : IsMultipleOf atom (next * power) = subst (IsMultipleOf atom) (mul_comm power next) (multiple_times atom next power s.next_chunk.0.0) in
        subst (IsMultipleOf atom) (sym (grown_large next final size lt)) (multiple_min atom (next * power) final product s.final_chunk.0)
  ]

  -- and so is the next one after it
  pub next_size_sound : (whole : ℕ) → IsMultipleOf atom whole → 0 < whole → (IsMultipleOf atom (doubled_chunk final whole) × (0 < doubled_chunk final whole)) × (doubled_chunk final whole ≤ final)
  next_size_sound whole atoms some =
      ((multiple_min atom (2 * whole) final (multiple_times atom whole 2 atoms) s.final_chunk.0, omega (arith, some, s.next_chunk.0.1, s.next_chunk.1)), omega arith)

-- What is known of an allocator.

module _ {S : Type 0} where
  -- the settings stay with another space and another next size
  pub settings_kept : (t : SizedState S) (space : S) (next : ℕ) → KeepsSettings t (record t { space = space; next_chunk = next })
  settings_kept t space next = record { final_chunk = refl; memory_type = refl; props = refl; atom = refl }

  -- so an answer keeps them, whose cases keep them
  pub answers_settings : (case : Case Slot (Account (SizedState S))) (es : List Event) (new : Account (SizedState S)) → ((slot : Slot) → KeepsSettings case.before.allocator (case.with_block slot).allocator)
      → ((slot : Slot) → KeepsSettings case.before.allocator (case.with_object slot).allocator) → (answer : Result Slot AllocationError) → Answers case es answer new → KeepsSettings case.before.allocator new.allocator
  answers_settings case es new placed begun (Ok slot) (inl gives) = rw (gives.state) (placed slot)
  answers_settings case es new placed begun (Ok slot) (inr gives) = rw (gives.state) (begun slot)
  answers_settings case es new placed begun (Err e) refused = rw (refused_keeps case es e new refused) (settings_kept case.before.allocator _ _)

  -- what is at a multiple of a block's alignment is at one of the request's
  pub aligned_by : (t : SizedState S) (w : Wanted) (offset : ℕ) → IsPowerUpTo 62 t.atom → IsAlignMask w.align_mask → IsMultipleOf (alignment t w) offset → offset % (w.align_mask + 1) ≡ 0
  aligned_by t w offset atom mask whole =
      let power = power_of_bit (w.align_mask + 1) mask.power in
      let greater : IsPowerOfTwo (alignment t w) = greater_power (w.align_mask + 1) t.atom power (atom.0, atom.1.1) in
      mod_from_multiple (w.align_mask + 1) offset (multiple_of_lower (w.align_mask + 1) (alignment t w) offset power greater (omega arith) whole)

  -- what is at a multiple of the alignment of a request in whole atoms is at one of the atom
  pub whole_by : (t : SizedState S) (align_mask offset : ℕ) → IsPowerUpTo 62 t.atom → IsAlignMask align_mask → t.atom ≤ align_mask + 1 → IsMultipleOf (align_mask + 1) offset → IsMultipleOf t.atom offset
  whole_by t align_mask offset atom mask le = multiple_of_lower t.atom (align_mask + 1) offset (atom.0, atom.1.1) (power_of_bit (align_mask + 1) mask.power) le

-- What is sound stays so, whatever the space.
module _ {S : Type 0} {chunks_of : S → HeldChunks} {live_in : S → set.FinSet slot_cmp} {IsSoundSpace : S → Type 0} where
  -- the sizes of what is sound
  pub sizes_of : (t : SizedState S) → IsSoundSized chunks_of live_in IsSoundSpace t → AreSizes t.next_chunk t.final_chunk t.atom
  sizes_of t s = record { next_chunk = s.next_chunk; final_chunk = s.final_chunk; power = s.atom }

  -- nothing is held or live
  pub sound_none : (space : S) (next final memory_type props atom : ℕ) → IsSoundSpace space → ((k : ℕ) (c : Chunk) → map.get (chunks_of space) k ≡ Some c → ⊥) → ((slot : Slot) → IsTrue (set.contains (live_in space) slot) → ⊥) → AreSizes next final atom
      → IsSoundSized chunks_of live_in IsSoundSpace (sized_in space next final memory_type props atom)
  sound_none space next final memory_type props atom now none_held none_live sizes = record {
    space = now;
    one_object = λ k n c d is_c is_d same. absurd (none_held k c is_c);
    chunks = λ k c is. absurd (none_held k c is);
    slots = λ slot live. absurd (none_live slot live);
    next_chunk = sizes.next_chunk;
    final_chunk = sizes.final_chunk;
    atom = sizes.power;
  }

  -- a new chunk holds its block, is no larger than the largest, and has whole atoms
  pub whole_holds : (t : SizedState S) (size whole : ℕ) → IsSoundSized chunks_of live_in IsSoundSpace t → 0 < size → size ≤ t.final_chunk → whole ≡ chunk_size t size → (size ≤ whole) × ((whole ≤ t.final_chunk) × IsMultipleOf t.atom whole)
  whole_holds t size whole s some fits whole_is =
      let sizes = sizes_of t s in
      rw (whole_is) (
        chunk_size_enough t.next_chunk t.final_chunk t.atom sizes size some fits,
        (chunk_size_bound t.next_chunk t.final_chunk t.atom sizes size, chunk_size_atoms t.next_chunk t.final_chunk t.atom sizes size),
      )

  module _ (t : SizedState S) (s : IsSoundSized chunks_of live_in IsSoundSpace t) (new : S) (now : IsSoundSpace new) where
    -- fewer chunks are held and fewer blocks are live
    pub sound_less : ((k : ℕ) (c : Chunk) → map.get (chunks_of new) k ≡ Some c → map.get (chunks_of t.space) k ≡ Some c) → ((slot : Slot) → IsTrue (set.contains (live_in new) slot) → IsTrue (set.contains (live_in t.space) slot))
        → IsSoundSized chunks_of live_in IsSoundSpace (record t { space = new })
    sound_less chunks slots = record {
      space = now;
      one_object = λ k n c d is_c is_d. s.one_object k n c d (chunks k c is_c) (chunks n d is_d);
      chunks = λ k c is. s.chunks k c (chunks k c is);
      slots = λ slot live. s.slots slot (slots slot live);
      next_chunk = s.next_chunk;
      final_chunk = s.final_chunk;
      atom = s.atom;
    }

    module _ (slot : Slot) (live_is : live_in new ≡ set.insert (live_in t.space) slot) (atoms : IsOfAtoms t.atom slot) where
      slots_more : (q : Slot) → IsTrue (set.contains (live_in new) q) → IsOfAtoms t.atom q
      slots_more q live = elim ((slot_inserted (live_in t.space) slot q).0 (subst (λ l. IsTrue (set.contains l q)) live_is live)) [ inl is ↦ subst (IsOfAtoms t.atom) (sym is) atoms | inr was ↦ s.slots q was ]

      -- one more block is live
      pub sound_with_slot : chunks_of new ≡ chunks_of t.space → IsSoundSized chunks_of live_in IsSoundSpace (record t { space = new })
      sound_with_slot chunks_are = record {
        space = now;
        one_object = λ k n c d is_c is_d. s.one_object k n c d (ap (λ m. map.get m k) (sym chunks_are) ∙ is_c) (ap (λ m. map.get m n) (sym chunks_are) ∙ is_d);
        chunks = λ k c is. s.chunks k c (ap (λ m. map.get m k) (sym chunks_are) ∙ is);
        slots = slots_more;
        next_chunk = s.next_chunk;
        final_chunk = s.final_chunk;
        atom = s.atom;
      }

      -- and one more chunk is held, of the size that the rule gives
      pub sound_grown : (key object size whole : ℕ) → chunks_of new ≡ map.insert (chunks_of t.space) key (record { object = object; size = whole }) → IsUnheldIn (chunks_of t.space) object → 0 < size → size ≤ t.final_chunk → whole ≡ chunk_size t size
          → IsSoundSized chunks_of live_in IsSoundSpace (record t { space = new; next_chunk = next_size t whole })
      sound_grown key object size whole chunks_are other some fits whole_is =
          let m = chunks_of t.space in
          let v : Chunk = record { object = object; size = whole } in
          let holds = whole_holds t size whole s some fits whole_is in
          record {
            space = now;
            one_object = λ k n c d is_c is_d same. elim (inserted_cases m key v k c (ap (λ x. map.get x k) (sym chunks_are) ∙ is_c)) [
              | inl new_c ↦ elim (inserted_cases m key v n d (ap (λ x. map.get x n) (sym chunks_are) ∙ is_d)) [
                | inl new_d ↦ new_c.0 ∙ sym new_d.0
                | inr old_d ↦ absurd (other n d old_d (sym same ∙ ap (λ (x : Chunk). x.object) (sym new_c.1)))
              ]
              | inr old_c ↦ elim (inserted_cases m key v n d (ap (λ x. map.get x n) (sym chunks_are) ∙ is_d)) [
                | inl new_d ↦ absurd (other k c old_c (same ∙ ap (λ (x : Chunk). x.object) (sym new_d.1)))
                | inr old_d ↦ s.one_object k n c d old_c old_d same
              ]
            ];
            chunks = λ k c is. elim (inserted_cases m key v k c (ap (λ x. map.get x k) (sym chunks_are) ∙ is)) [
              | inl new_c ↦ subst (λ (x : Chunk). IsMultipleOf t.atom x.size × (x.size ≤ t.final_chunk)) new_c.1 (holds.1.1, holds.1.0)
              | inr old ↦ s.chunks k c old
            ];
            slots = slots_more;
            next_chunk = next_size_sound t.next_chunk t.final_chunk t.atom (sizes_of t s) whole holds.1.1 (omega (arith, holds.0, some));
            final_chunk = s.final_chunk;
            atom = s.atom;
          }

  -- a live block begins and ends at whole atoms
  pub live_atoms : (old new : SizedState S) (slot : Slot) → KeepsSettings old new → IsSoundSized chunks_of live_in IsSoundSpace new → IsTrue (set.contains (live_in new.space) slot) → (slot.offset % old.atom ≡ 0) × (slot.size % old.atom ≡ 0)
  live_atoms old new slot keeps s live =
      let atoms = subst (λ n. IsOfAtoms n slot) keeps.atom (s.slots slot live) in
      (mod_from_multiple old.atom slot.offset atoms.0, mod_from_multiple old.atom slot.size atoms.1)
