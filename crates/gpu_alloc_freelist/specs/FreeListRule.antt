-- The rule of free lists, and what it owes as that of a store of shared chunks.
use Rattle.std.specs.Prelude.{◌≡◌, ℕ, ◌+◌, ◌<◌, ◌≤◌, false, Option, Some, None, refl}
use Rattle.std.proofs.Common.{sym, ap, subst}
use Rattle.std.proofs.Math.Nat.{not-suc-le_self}
use Rattle.std.proofs.Math.Numerals.{suc-eq-add-one}
use Rattle.std.specs.FinMap as map
use Rattle.std.specs.FinSet as set
use Rattle.gpu_alloc_base.specs.Accounts.{HeldChunks}
use Rattle.gpu_alloc_base.specs.Chunks.{Chunk}
use Rattle.gpu_alloc_base.specs.Slots.{slot_cmp}
use Rattle.gpu_alloc_base.specs.declared.free_list_block.Slot.{Slot}
use Rattle.gpu_alloc_freelist.specs.FreeList.{HasNumber, HasPlace, IsFirstToGo, IsTail, MayGo, first_tail, with_numbered_chunk, with_slot}
use Rattle.gpu_alloc_freelist.specs.FreeListSound.{IsSoundFreeList}
use Rattle.gpu_alloc_freelist.specs.FreeListState.{FreeListState, bytes_of, chunk_size, next_size}
use Rattle.gpu_alloc_shared.specs.Rule.{IsLawful, Rule}
use Rattle.gpu_alloc_shared.specs.Sized.{IsWholeAsk, ServesWhole, whole_ask}
use Rattle.gpu_alloc_shared.specs.declared.store.Ask.{Ask}

abbrev pub list_ask : FreeListState → ℕ → ℕ → Ask
list_ask l = whole_ask l.atom

-- one more chunk is held, with a block at its tail
abbrev pub list_in_new_chunk : FreeListState → Ask → ℕ → Slot → FreeListState
list_in_new_chunk l ask whole slot = record l {
  space = with_slot (with_numbered_chunk l.space slot.object whole)
      (first_tail l.space slot.object whole ask.size (ask.align_mask + 1));
  next_chunk = next_size l whole;
}

-- A chunk of the largest size always fits. No chunk is released with a block, but after it. Nothing is split.
abbrev pub list_rule : Rule FreeListState Ask Slot
list_rule = record {
  served = λ l. record { memory_type = l.memory_type; props = l.props };
  chunks = λ l. l.space.chunks;
  order = slot_cmp;
  live = λ l. l.space.live;
  with_space = λ l chunks live. record l { space = record l.space { chunks = chunks; live = live } };
  key = λ slot. slot.chunk;
  bytes = bytes_of;
  IsSound = IsSoundFreeList;
  Serves = λ l heap size align_mask. ServesWhole l.final_chunk l.atom size align_mask;
  asked = list_ask;
  Fits = λ ask. Unit {0};
  IsAsk = λ l. IsWholeAsk l.atom;
  Holds = λ l heap ask. ask.size ≤ l.final_chunk;
  HasPlace = λ l ask. HasPlace l.space ask.size (ask.align_mask + 1);
  IsTaken = λ l ask slot. IsTail l.space ask.size (ask.align_mask + 1) slot;
  HasNumber = λ l. HasNumber l.space;
  chunk_size = λ l heap ask. chunk_size l ask.size;
  Begins = λ l ask whole slot. slot ≡ first_tail l.space slot.object whole ask.size (ask.align_mask + 1);
  in_new_chunk = list_in_new_chunk;
  ReleasedWith = λ l slot. ⊥;
  IsNext = λ l keep_last number. IsFirstToGo l.space keep_last number;
  Left = λ l keep_last found. found ≡ false → (number : ℕ) → MayGo l.space keep_last number → ⊥;
  Looks = λ l ask looks now. Unit {0};
  Tries = λ l ask found looks now splits after. Unit {0};
  Begun = λ l ask whole splits after. Unit {0};
  Joins = λ l slot steps after. steps ≤ after;
}

-- no chunk has a number above the latest
none_above : (chunks : HeldChunks) (latest : ℕ) → ((k : ℕ) (c : Chunk) → map.get chunks k ≡ Some c → (0 < k) × (k ≤ latest)) → map.get chunks (latest + 1) ≡ None
none_above chunks latest small = each (map.get chunks (latest + 1)) refl
  where
    each : (o : Option Chunk) → map.get chunks (latest + 1) ≡ o → map.get chunks (latest + 1) ≡ None
    each None at = at
    each (Some c) at = absurd (not-suc-le_self latest (subst (λ k. k ≤ latest) (sym (suc-eq-add-one latest)) (small (latest + 1) c at).1))

pub list_lawful : IsLawful list_rule
list_lawful = record {
  its_chunks = λ l chunks live. refl;
  its_live = λ l chunks live. refl;
  its_type = λ l chunks live. refl;
  in_held = λ l ask slot tail. (tail.object.0, tail.object.1);
  new_key = λ l s ask whole slot begins. subst (λ n. map.get l.space.chunks n ≡ None) (sym (ap (λ (x : Slot). x.chunk) begins)) (none_above l.space.chunks l.space.latest s.space.numbers);
  one_chunk = λ l ask whole slot begins. ap (λ (x : Slot). map.insert l.space.chunks x.chunk (record { object = slot.object; size = whole })) (sym begins);
  one_block = λ l ask whole slot begins. ap (set.insert l.space.live) (sym begins);
  same_type = λ l ask whole slot. refl;
  own_object = λ l s. s.one_object;
  of_chunk = λ l slot s live. let lies = s.space.inside slot live in (lies.chunk, (lies.held, lies.object));
}
