-- The chunks and the live blocks of a free list, as one is added or removed.
use Rattle.std.proofs.Common.{◌≡◌, ◌≢◌, ◌⊎◌, inl, inr, ℕ, ◌+◌, ◌^◌, ◌<◌, Some, None, refl, sym, ◌∙◌, ap, subst, arith}
use Rattle.std.specs.FinMap as map
use Rattle.gpu_alloc_base.specs.Chunks.{Chunk}
use Rattle.gpu_alloc_freelist.specs.FreeList.{with_slot, with_numbered_chunk, without_slot, without_chunk}
use Rattle.gpu_alloc_freelist.specs.FreeListSound.{IsSoundListSpace, LiesInChunk}
use Rattle.gpu_alloc_freelist.specs.FreeListState.{ListSpace, IsLiveSlot, IsFreeIn}
use Rattle.gpu_alloc_base.specs.FreeRuns.{AreFree}
use Rattle.gpu_alloc_base.specs.FreeSpace.{IsIn}
use Rattle.gpu_alloc_base.specs.declared.free_list_block.Slot.{Slot}
use Rattle.gpu_alloc_base.proofs.Maps.{inserted_cases, inserted_kept, kept_key, kept_other}
use Rattle.gpu_alloc_base.proofs.Slots.{slot_inserted, slot_removed}

-- A block comes.

module _ (s : ListSpace) (slot : Slot) where
  -- a live block is that one, or was live
  pub was_live : (q : Slot) → IsLiveSlot (with_slot s slot) q → (q ≡ slot) ⊎ IsLiveSlot s q
  was_live q live = (slot_inserted s.live slot q).0 live

  -- what was live is so still
  pub still_live : (q : Slot) → IsLiveSlot s q → IsLiveSlot (with_slot s slot) q
  still_live q live = (slot_inserted s.live slot q).1 (inr live)

  -- the block is live now
  pub now_live : IsLiveSlot (with_slot s slot) slot
  now_live = (slot_inserted s.live slot slot).1 (inl refl)

  -- a block lies in its chunk as before
  lies_with : (q : Slot) → LiesInChunk s q → LiesInChunk (with_slot s slot) q
  lies_with q lies = record { chunk = lies.chunk; held = lies.held; object = lies.object; nonempty = lies.nonempty; inside = lies.inside }

  -- in bytes that were free: the space stays sound
  pub space_with_slot : IsSoundListSpace s → LiesInChunk s slot → AreFree (IsFreeIn s) slot.chunk slot.offset (slot.offset + slot.size) → IsSoundListSpace (with_slot s slot)
  space_with_slot sound lies free = record {
    numbers = sound.numbers;
    sizes = sound.sizes;
    inside = λ q live. elim (was_live q live) [
      | inl is ↦ subst (LiesInChunk (with_slot s slot)) (sym is) (lies_with slot lies)
      | inr was ↦ lies_with q (sound.inside q was)
    ];
    apart = λ x y live_x live_y same at in_x in_y. elim (was_live x live_x) [
      | inl is_x ↦ elim (was_live y live_y) [
        | inl is_y ↦ is_x ∙ sym is_y
        | inr was_y ↦ absurd (other y was_y (sym same ∙ ap (λ (q : Slot). q.chunk) is_x) at in_y (subst (λ (q : Slot). IsIn q.offset q.size at) is_x in_x))
      ]
      | inr was_x ↦ elim (was_live y live_y) [
        | inl is_y ↦ absurd (other x was_x (same ∙ ap (λ (q : Slot). q.chunk) is_y) at in_x (subst (λ (q : Slot). IsIn q.offset q.size at) is_y in_y))
        | inr was_y ↦ sound.apart x y was_x was_y same at in_x in_y
      ]
    ];
  }
    where
      -- a live block shares no byte with it
      other : (q : Slot) → IsLiveSlot s q → q.chunk ≡ slot.chunk → (at : ℕ) → IsIn q.offset q.size at → IsIn slot.offset slot.size at → ⊥
      other q live same at in_q in_slot = (free at in_slot.from in_slot.to).unused q live same in_q

-- A chunk comes.

-- no number above the latest is held
pub none_above : (s : ListSpace) (k : ℕ) → IsSoundListSpace s → s.latest < k → map.get s.chunks k ≡ None
none_above s k sound above = elim (map.get s.chunks k) as (λ o. map.get s.chunks k ≡ o → map.get s.chunks k ≡ None) [
  | None ↦ λ e. e
  | Some c ↦ λ e. absurd (omega (arith, (sound.numbers k c e).1))
] refl

-- so the next one is new
pub next_is_new : (s : ListSpace) → IsSoundListSpace s → map.get s.chunks (s.latest + 1) ≡ None
next_is_new s sound = none_above s (s.latest + 1) sound (omega arith)

-- no live block lies in a chunk with it
pub none_in_next : (s : ListSpace) → IsSoundListSpace s → (q : Slot) → IsLiveSlot s q → q.chunk ≡ s.latest + 1 → ⊥
none_in_next s sound q live same = let lies = sound.inside q live in omega (arith, (sound.numbers q.chunk lies.chunk lies.held).1, same)

-- the space stays sound
pub space_with_chunk : (s : ListSpace) (object size : ℕ) → IsSoundListSpace s → 0 < size → size < 2 ^ 64 → IsSoundListSpace (with_numbered_chunk s object size)
space_with_chunk s object size sound some fits =
    let v : Chunk = record { object = object; size = size } in
    record {
      numbers = λ n c is. elim (inserted_cases s.chunks (s.latest + 1) v n c is) [ inl new ↦ (omega (arith, new.0), omega (arith, new.0)) | inr old ↦ let was = sound.numbers n c old in (was.0, omega (arith, was.1)) ];
      sizes = λ n c is. elim (inserted_cases s.chunks (s.latest + 1) v n c is) [ inl new ↦ subst (λ (x : Chunk). (0 < x.size) × (x.size < 2 ^ 64)) new.1 (some, fits) | inr old ↦ sound.sizes n c old ];
      inside = λ q live. let l = sound.inside q live in
          record { chunk = l.chunk; held = inserted_kept s.chunks (s.latest + 1) v q.chunk l.chunk (next_is_new s sound) l.held; object = l.object; nonempty = l.nonempty; inside = l.inside };
      apart = sound.apart;
    }

-- A block is removed.

-- the space stays sound
pub space_without_slot : (s : ListSpace) (slot : Slot) → IsSoundListSpace s → IsSoundListSpace (without_slot s slot)
space_without_slot s slot sound = record {
  numbers = sound.numbers;
  sizes = sound.sizes;
  inside = λ other is.
      let lies = sound.inside other ((slot_removed s.live slot other).0 is).1 in
      record { chunk = lies.chunk; held = lies.held; object = lies.object; nonempty = lies.nonempty; inside = lies.inside };
  apart = λ x y is_x is_y. sound.apart x y ((slot_removed s.live slot x).0 is_x).1 ((slot_removed s.live slot y).0 is_y).1;
}

-- A chunk is removed.

module _ (s : ListSpace) (n : ℕ) where
  -- a byte of another chunk is free as before
  pub still_free : (k at : ℕ) → k ≢ n → IsFreeIn s k at → IsFreeIn (without_chunk s n) k at
  still_free k at other free = record { held = free.held; is = kept_other s.chunks n k other ∙ free.is; inside = free.inside; unused = free.unused }

  -- and what is free was free, in another chunk
  pub was_free : (k at : ℕ) → IsFreeIn (without_chunk s n) k at → (k ≢ n) × IsFreeIn s k at
  was_free k at free =
      let h = kept_key s.chunks n k free.held free.is in
      (h.0, record { held = free.held; is = h.1; inside = free.inside; unused = free.unused })

  -- where no live block lies in it, the space stays sound
  pub space_without_chunk : IsSoundListSpace s → ((slot : Slot) → IsLiveSlot s slot → slot.chunk ≢ n) → IsSoundListSpace (without_chunk s n)
  space_without_chunk sound unused = record {
    numbers = λ k held there. sound.numbers k held (kept_key s.chunks n k held there).1;
    sizes = λ k held there. sound.sizes k held (kept_key s.chunks n k held there).1;
    inside = λ slot live.
        let lies = sound.inside slot live in
        record { chunk = lies.chunk; held = kept_other s.chunks n slot.chunk (unused slot live) ∙ lies.held; object = lies.object; nonempty = lies.nonempty; inside = lies.inside };
    apart = sound.apart;
  }
