-- Free lists in the whole allocator: where they stand among the fields, and their requests by names.
use Rattle.std.proofs.Common.{◌≡◌, ℕ, zero, suc, ◌+◌, ◌-◌, ◌≤◌, true, List, [], ◌∷◌, slice_get, Some, refl, sym, ◌∙◌, ap, subst, arith}
use Rattle.std.specs.Prelude.{max}
use Rattle.std.proofs.lemmas.Bool.Decides.{nat_tests}
use Rattle.std.proofs.lemmas.Nat.{pow_pos}
use Rattle.std.specs.FinMap as map
use Rattle.gpu_alloc_base.specs.Accounts.{account}
use Rattle.gpu_alloc_base.specs.Chunks.{Chunk}
use Rattle.gpu_alloc_base.specs.NewChunk.{flags_of}
use Rattle.gpu_alloc_base.specs.Sizes.{doubled_chunk, up}
use Rattle.gpu_alloc_base.specs.Wanted.{wanted}
use Rattle.gpu_alloc_base.specs.declared.free_list_block.Slot.{Slot}
use Rattle.gpu_alloc_base.specs.declared.heap.Heap.{Heap}
use Rattle.gpu_alloc_base.proofs.SameRuns.{AreSameBytes, last_room_same, place_same, same_back}
use Rattle.gpu_alloc_base.proofs.Slots.{slot_exact, slot_total}
use Rattle.gpu_alloc_block.specs.State.{Block, HeldObject, Span, State, TypeState, span_of}
use Rattle.gpu_alloc_block.specs.declared.block.Kind.TheVariants.{FreeListChunk}
use Rattle.gpu_alloc_freelist.specs.FreeList.{IsTail, no_list_space}
use Rattle.gpu_alloc_freelist.specs.FreeListAllocator.{case_of, list_case}
use Rattle.gpu_alloc_freelist.specs.FreeListRule.{list_ask, list_lawful, list_rule}
use Rattle.gpu_alloc_freelist.specs.FreeListSound.{IsSoundFreeList}
use Rattle.gpu_alloc_freelist.specs.FreeListState.{FreeListState, IsFreeIn, IsLiveSlot, chunk_size}
use Rattle.gpu_alloc_shared.specs.declared.store.Ask.{Ask}
use Rattle.gpu_alloc.specs.Allocation.{fits_a_chunk}
use Rattle.gpu_alloc.specs.Candidates.{IsTailBlock, candidate, list_candidate}
use Rattle.gpu_alloc.specs.FreeListSharing.{HasListNumber, HasListPlace, IsFreeInChunk, IsListChunk, largest_list_chunk, latest_number, list_block, list_chunk_of, list_question, number_of, tail_of, with_list_chunk, with_next_list}
use Rattle.gpu_alloc.specs.Inside.{IsLiveIn}
use Rattle.gpu_alloc.specs.StoresFor.{IsListFor, IsListForType}
use Rattle.gpu_alloc.specs.Spans.{Table}
use Rattle.gpu_alloc.specs.Stores.{chosen_sizes, list_part}
use Rattle.gpu_alloc.specs.Whole.{part_side}
use Rattle.gpu_alloc.specs.declared.allocator.stores.Chosen.{Chosen}
use Rattle.gpu_alloc.specs.declared.allocator.stores.Chosen.TheVariants.{Buddy as InBuddies, Fit as InFits}
use Rattle.gpu_alloc.specs.declared.allocator.Strategy.TheVariants.{InFreeList}
use Rattle.gpu_alloc.specs.declared.request.Request.{Request}
use Rattle.gpu_alloc.proofs.Links.{slot_at}
use Rattle.gpu_alloc.proofs.Shared.Calls.{IsBlockOf}
use Rattle.gpu_alloc.proofs.Shared.Stores.{AreAsked, IsLinked, IsNamed, IsRequest, Named, Serves, block_at, block_there, byte_is, byte_was, plain_of, row}
use Rattle.gpu_alloc.proofs.Shared.Types.{changed}
use Rattle.gpu_alloc.proofs.Wholes.{one_slot}

abbrev pub list_named : Named list_rule
list_named = record {
  kind = λ key. FreeListChunk key;
  get = λ e. Some e.free_list;
  put = λ e l. record e { free_list = l };
  side = 1;
  IsFor = IsListFor;
  IsOf = λ c p i l. IsListForType c p i (record l { space = no_list_space; next_chunk = 0 });
  sizes = λ l type. record type { list_chunk = l.next_chunk; number = l.space.latest };
  Free = λ l. IsFreeIn l.space;
  IsSome = λ ask. Unit {0};
  HasPlace = λ s i ask. HasListPlace s i ask.size (ask.align_mask + 1);
  IsTaken = λ s i ask. IsTailBlock s i ask.size (ask.align_mask + 1);
  HasNumber = HasListNumber;
  size = λ s i ask. (list_question s i ask.size).size;
  new_block = λ s i ask object. list_block s i (latest_number s i + 1) (tail_of object (list_question s i ask.size).size ask.size (ask.align_mask + 1));
  with_chunk = with_list_chunk;
}

-- a memory type's next chunk is one of its sizes, and the latest number the next one
next_changed : (types : List TypeState) (i size latest : ℕ) → number_of (slice_get types i) ≡ latest → with_next_list types i size ≡ changed (λ type. record type { list_chunk = size; number = latest + 1 }) types i
unfolding with_next_list
next_changed [] i size latest is = refl
next_changed (type ∷ types) zero size latest is = λ k. record type { list_chunk = size; number = is k + 1 } ∷ types
next_changed (type ∷ types) (suc i) size latest is = ap (λ ts. type ∷ ts) (next_changed types i size latest is)

latest_is : (s : State) (i : ℕ) (l : FreeListState) → Serves list_named s i l → latest_number s i ≡ l.space.latest
latest_is s i l serves = serves.next number_of l.space.latest (λ type. refl)

size_is : (s : State) (i : ℕ) (l : FreeListState) (ask : Ask) → Serves list_named s i l → chunk_size l ask.size ≡ (list_question s i ask.size).size
size_is s i l ask serves = λ k. chunk_size (record l { next_chunk = sym (serves.next list_chunk_of l.next_chunk (λ type. refl)) k; final_chunk = serves.of.final_chunk k }) ask.size

-- the chosen store leaves its sizes alone
list_sizes : {M X : Type 0} (c : Chosen M X) (l new : FreeListState) (type : TypeState) → chosen_sizes c (record type { list_chunk = new.next_chunk; number = new.space.latest })
    ≡ record (chosen_sizes c (record type { list_chunk = l.next_chunk; number = l.space.latest })) { list_chunk = new.next_chunk; number = new.space.latest }
list_sizes (InBuddies b) l new type = refl
list_sizes (InFits f) l new type = refl

pub list_is_named : IsNamed list_named
list_is_named = record {
  lawful = list_lawful;
  total = slot_total;
  exact = slot_exact;
  got = λ e l. refl;
  same = λ e l is. let it : e.free_list ≡ l = cc in λ k. record e { free_list = sym it k };
  twice = λ e l new. refl;
  part_there = λ e l is. let it : e.free_list ≡ l = cc in ap list_part it;
  part_set = λ e l new is. refl;
  side_small = omega arith;
  shared = λ key. refl;
  placed = λ key kind is. ap part_side is;
  each = λ c p sharing i e l are is. let it : e.free_list ≡ l = cc in subst (IsListFor c p i) it are.free_list;
  each_put = λ c p sharing i e l new are is of. record { chosen = are.chosen; free_list = of };
  for_is = λ c p i l is. let t = is.for_type in (record { memory_type = t.memory_type; props = t.props; atom = t.atom; final_chunk = t.final_chunk }, is.sound);
  for_of = λ c p i l of sound. record { for_type = record { memory_type = of.memory_type; props = of.props; atom = of.atom; final_chunk = of.final_chunk }; sound = sound };
  of_type = λ c p i l of. (of.memory_type, of.props);
  of_less = λ c p i l chunks live of fewer. of;
  of_more = λ c p i l heap ask slot of sound begins now. of;
  types_put = λ e l new type is. list_sizes e.chosen e.free_list new type;
  sizes_kept = λ l chunks live. refl;
  grown = λ s i l heap ask slot serves begins.
      let size = size_is s i l ask serves in
      let latest = latest_is s i l serves in
      let number : latest_number s i + 1 ≡ slot.chunk = ap (λ n. n + 1) latest ∙ sym (ap (λ (x : Slot). x.chunk) begins) in
      let types_now = next_changed s.types i _ l.space.latest latest ∙ (λ k. changed (λ type. record type { list_chunk = doubled_chunk (sym serves.of.final_chunk k) (sym size k); number = l.space.latest + 1 }) s.types i) in
      λ k. record (with_list_chunk s i slot.object (list_question s i ask.size).size) {
        held = map.insert s.held slot.object (record { memory_type = i; counted = (list_question s i ask.size).size; kind = FreeListChunk (number k) });
        types = types_now k;
      };
  one_span = one_slot;
  some = λ l sound slot live. (sound.space.inside slot live).nonempty;
  free_is = λ l key at free. record { held = free.held; is = free.is; inside = free.inside; unused = free.unused };
  free_was = λ l key at free. record { held = free.held; is = free.is; inside = free.inside; unused = free.unused };
  small = λ l sound key c held. (sound.space.sizes key c held).1;
}

-- Chunks by number.

module _ {t : Table} {l : FreeListState} (linked : IsLinked list_named t l) where
  -- an object that is held under a number is that number's chunk
  pub under_number : (number object : ℕ) (h : HeldObject) → map.get t.held object ≡ Some h → h.kind ≡ FreeListChunk number → h.memory_type ≡ l.memory_type → map.get l.space.chunks number ≡ Some (record { object = object; size = h.counted })
  under_number number object h held kind type =
      let own = linked.objects object h (record { key = number; held = held; of_kind = kind; of_type = type }) in
      let kinds : FreeListChunk own.0 ≡ FreeListChunk number = own.2 ∙ kind in
      let same : own.0 ≡ number = cc in
      subst (λ n. map.get l.space.chunks n ≡ Some (record { object = object; size = h.counted })) same own.1

  -- and a live span of it one of its blocks
  pub slot_there : IsSoundFreeList l → (number : ℕ) (span : Span) (h : HeldObject) → map.get t.held span.object ≡ Some h → h.kind ≡ FreeListChunk number → h.memory_type ≡ l.memory_type → IsLiveIn t span → IsLiveSlot l.space (slot_at span number)
  slot_there sound number span h held kind type live =
      let there = block_there t l linked (plain_of list_is_named l sound) number _ span (under_number number span.object h held kind type) refl live in
      subst (IsLiveSlot l.space) (λ k. slot_at (there.2 k) (there.3 k)) there.1

-- the block that is returned, as the slot of its number
pub slot_of_block : {l : FreeListState} {block : Block} {number : ℕ} {slot : Slot} → (there : (b : Slot) × IsBlockOf list_named l b block) → block.kind ≡ FreeListChunk number → slot ≡ slot_at (span_of block) number → IsBlockOf list_named l slot block
slot_of_block {l} {block} {number} {slot} there listed is =
    let kinds : FreeListChunk number ≡ FreeListChunk there.0.chunk = sym listed ∙ there.1.kind in
    let chunk : number ≡ there.0.chunk = cc in
    let same : slot ≡ there.0 = is ∙ (λ k. slot_at (there.1.span k) (chunk k)) in
    subst (λ b. IsBlockOf list_named l b block) (sym same) there.1

-- Requests.

module _ (s : State) (i : ℕ) (l : FreeListState) (serves : Serves list_named s i l) where
  pub chunk_is : (number : ℕ) (c : Chunk) → map.get l.space.chunks number ≡ Some c → IsListChunk s i number c.object
  chunk_is number c is = record { chunk = row list_named l number c; held = serves.linked.chunks number c is; of_type = serves.of.memory_type; of_kind = refl }

  pub chunk_was : (number object : ℕ) (is : IsListChunk s i number object) → map.get l.space.chunks number ≡ Some (record { object = object; size = is.chunk.counted })
  chunk_was number object is = under_number serves.linked number object is.chunk is.held is.of_kind (is.of_type ∙ sym serves.of.memory_type)

  pub list_bytes : AreSameBytes (IsFreeIn l.space) (IsFreeInChunk s i)
  list_bytes = record {
    to = λ number at free. (free.held.object, byte_is list_is_named s i l serves number at free.held free.is free);
    from = λ number at (object, free).
        byte_was list_is_named s i l serves number at _ (chunk_was number object (record { chunk = free.chunk; held = free.held; of_type = free.of_type; of_kind = free.of_kind })) free;
  }

  -- a block at a tail of free bytes is one
  list_taken : (ask : Ask) (slot : Slot) → IsTail l.space ask.size (ask.align_mask + 1) slot → IsTailBlock s i ask.size (ask.align_mask + 1) (block_at list_named s i slot)
  list_taken ask slot tail = record {
    number = slot.chunk;
    is = refl;
    tail = record {
      run = tail.run;
      last = last_room_same list_bytes ask.size (ask.align_mask + 1) tail.run tail.last;
      in_chunk = sym tail.chunk;
      start = tail.start;
      end = tail.end;
      chunk = subst (IsListChunk s i slot.chunk) (sym tail.object.2) (chunk_is slot.chunk tail.object.0 tail.object.1);
    };
  }

  -- what fits a largest chunk of the memory type fits one of its free list
  pub fits_list : (r : Request) → fits_a_chunk s r i ≡ true → up r.size l.atom ≤ l.final_chunk
  fits_list r fits =
      let le : up r.size l.atom ≤ largest_list_chunk s i = subst (λ atom. up r.size atom ≤ largest_list_chunk s i) (sym serves.of.atom) (grind (arith, nat_tests)) in
      omega (arith, le, serves.of.final_chunk)

  -- the request as each of both has it
  pub list_request : (r : Request) (heap : Heap) (remaining flags : ℕ) → flags ≡ flags_of s.properties → IsRequest list_named s i l heap remaining (case_of (account l heap remaining) (wanted r.size r.align_mask flags)) (candidate InFreeList s r i)
  list_request r heap remaining flags is =
      let atom = serves.of.atom in
      let aligned : max (r.align_mask + 1) l.atom ≡ max r.align_mask (l.atom - 1) + 1 = omega (arith, serves.sound.atom.1.1, pow_pos serves.sound.atom.0) in
      record {
        ask = list_ask l r.size r.align_mask;
        flags = flags;
        some = tt;
        flags_are = is;
        to_store = ap (λ alignment. list_case (account l heap remaining) (up r.size l.atom) alignment flags) aligned;
        by_name = (λ k. list_candidate s (up r.size (sym atom k)) (max (r.align_mask + 1) (sym atom k)) i) ∙ ap (λ alignment. list_candidate s (up r.size l.atom) alignment i) aligned;
      }

pub list_asked : AreAsked list_named
list_asked = record {
  place = λ s i l ask serves (number, start, place). (number, start, place_same (list_bytes s i l serves) ask.size (ask.align_mask + 1) number start place);
  place_was = λ s i l ask serves some (number, start, place). (number, start, place_same (same_back (list_bytes s i l serves)) ask.size (ask.align_mask + 1) number start place);
  number = λ s i l serves has. omega (arith, has, latest_is s i l serves);
  number_was = λ s i l serves has. omega (arith, has, latest_is s i l serves);
  size = λ s i l heap ask serves. size_is s i l ask serves;
  taken = λ s i l ask slot serves. list_taken s i l serves ask slot;
  begun = λ s i l heap ask slot serves begins.
      ap (block_at list_named s i) begins ∙ (λ k. list_block s i (sym (latest_is s i l serves) k + 1) (tail_of slot.object (size_is s i l ask serves k) ask.size (ask.align_mask + 1)));
}
