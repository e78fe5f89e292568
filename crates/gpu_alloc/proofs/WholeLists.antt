-- The chunks and the live blocks of free lists, as they are listed and counted.
use Rattle.std.proofs.Common.{◌≡◌, inl, inr, ℕ, List, map, Some, None, refl, sym, ◌∙◌, ap, subst}
use Rattle.std.specs.Bool.{Decides}
use Rattle.std.specs.Cmp.{nat_cmp_total}
use Rattle.std.specs.FinMap as finite
use Rattle.std.specs.FinMap.{nat_cmp-IsAntisymmetric}
use Rattle.std.specs.FinSet as set
use Rattle.std.specs.List.{Contains}
use Rattle.std.specs.Ordering.{nat_cmp}
use Rattle.slab.specs.Slab.{get}
use Rattle.slab.proofs.SlabLemmas.{Contains-entries}
use Rattle.gpu_alloc_base.specs.Chunks.{Chunk}
use Rattle.gpu_alloc_base.specs.SlabViews.{HasOneKeyEach}
use Rattle.gpu_alloc_base.specs.Slots.{slot_cmp}
use Rattle.gpu_alloc_base.specs.declared.free_list_block.Slot.{Slot}
use Rattle.gpu_alloc_base.proofs.ListViews.{AreNamedApart, seek_name}
use Rattle.gpu_alloc_base.proofs.Maps.{one_value}
use Rattle.gpu_alloc_base.proofs.SlabViews.{in_set, map_absent, map_there}
use Rattle.gpu_alloc_base.proofs.Slots.{slot_exact, slot_total}
use Rattle.gpu_alloc_block.specs.Parts.{HaveOwnObjects}
use Rattle.gpu_alloc_block.specs.State.{Span, span_cmp}
use Rattle.gpu_alloc_block.specs.declared.block.Kind.TheVariants.{FreeListChunk}
use Rattle.gpu_alloc_freelist.specs.Chunks.{ListsChunks, chunk_of}
use Rattle.gpu_alloc_freelist.specs.FreeListRule.{list_rule}
use Rattle.gpu_alloc_freelist.specs.FreeListSound.{IsSoundFreeList}
use Rattle.gpu_alloc_freelist.specs.FreeListState.{FreeListState}
use Rattle.gpu_alloc_freelist.specs.Live.{ListsSlots}
use Rattle.gpu_alloc_freelist.specs.declared.freelist.chunks.NumberedChunk.{NumberedChunk}
use Rattle.gpu_alloc.specs.Listing.{AreOnce}
use Rattle.gpu_alloc.specs.Spans.{span_in}
use Rattle.gpu_alloc.specs.Stores.{block_span, chunk_row, list_part}
use Rattle.gpu_alloc.specs.declared.spans.HeldRow.{HeldRow}
use Rattle.gpu_alloc_base.specs.declared.buddy_block.Leaf.{Leaf as LiveSpan}
use Rattle.gpu_alloc.proofs.Tables.Listed.{mapped_twice, once_named, rows_apart}
use Rattle.gpu_alloc.proofs.WholeRows.{AreRowsOf, rows_of, spans_are}
use Rattle.gpu_alloc.proofs.Wholes.{one_slot}

-- A free list's chunks.

-- what a chunk of a memory type is listed as
abbrev pub list_row : {M : Type 0} → (M → ℕ) → ℕ → ℕ × NumberedChunk M → ℕ × HeldRow
list_row object memory_type e =
    (object e.1.memory, record { memory_type = memory_type; counted = e.1.size; kind = FreeListChunk e.1.number })

module _ {M : Type 0} (object : M → ℕ) (l : FreeListState) (named : HaveOwnObjects l.space.chunks) (listed : List (ℕ × NumberedChunk M)) (lists : ListsChunks object l.space.chunks listed) where
  -- a row's chunk is held under its number
  is_held : (key : ℕ) (row : NumberedChunk M) → get lists.rows key ≡ Some row → finite.get l.space.chunks row.number ≡ Some (chunk_of object row)
  is_held key row at =
      ap (λ (m : finite.FinMap nat_cmp Chunk). finite.get m row.number) lists.exact
      ∙ map_there nat_cmp_total nat_cmp-IsAntisymmetric (λ (r : NumberedChunk M). r.number) (chunk_of object) lists.rows key row lists.once at

  is_listed : (e : ℕ × NumberedChunk M) → Contains listed e → get lists.rows e.0 ≡ Some e.1
  is_listed e has = (Contains-entries lists.rows e.0 e.1).0 (subst (λ (es : List (ℕ × NumberedChunk M)). Contains es e) lists.are has)

  -- no two rows have one object
  one_key : HasOneKeyEach (λ (row : NumberedChunk M). object row.memory) lists.rows
  one_key i k a b at_i at_k same =
      lists.once i k a b at_i at_k (named a.number b.number (chunk_of object a) (chunk_of object b) (is_held i a at_i) (is_held k b at_k) same)

  abbrev number : ℕ × NumberedChunk M → ℕ
  number e = e.1.number

  abbrev said : ℕ × NumberedChunk M → Chunk
  said e = chunk_of object e.1

  as_held : (e : ℕ × NumberedChunk M) → Contains listed e → finite.get l.space.chunks (number e) ≡ Some (said e)
  as_held e has = is_held e.0 e.1 (is_listed e has)

  entry_for : (n : ℕ) (c : Chunk) → finite.get l.space.chunks n ≡ Some c → (e : ℕ × NumberedChunk M) × Contains listed e × (said e ≡ c)
  entry_for n c there = elim (seek_name nat_cmp_total nat_cmp-IsAntisymmetric number (λ r. r) listed n) [
    | inl found ↦
        let here = subst (λ k. finite.get l.space.chunks k ≡ Some (said found.0)) found.2 (as_held found.0 found.1) in
        (found.0, found.1, one_value (finite.get l.space.chunks n) (said found.0) c here there)
    | inr other ↦ absurd (
        let no = map_absent nat_cmp_total nat_cmp-IsAntisymmetric (λ (r : NumberedChunk M). r.number) (chunk_of object) lists.rows n
        (λ key row at. other (key, row) (subst (λ (es : List (ℕ × NumberedChunk M)). Contains es (key, row)) (sym lists.are) ((Contains-entries lists.rows key row).1 at))) in
        let bad : None ≡ Some c = sym no ∙ ap (λ (m : finite.FinMap nat_cmp Chunk). finite.get m n) (sym lists.exact) ∙ there in
        cc)
  ]

  apart : AreNamedApart (λ (e : ℕ × NumberedChunk M). object e.1.memory) listed
  apart = subst (AreNamedApart (λ (e : ℕ × NumberedChunk M). object e.1.memory)) (sym lists.are) (rows_apart (λ (row : NumberedChunk M). object row.memory) lists.rows one_key)

  pub list_rows : (memory_type : ℕ) → l.memory_type ≡ memory_type → AreRowsOf (list_part l).held (list_row object memory_type) listed
  list_rows memory_type typed =
      rows_of named (record { held = as_held; all = entry_for; apart = apart }) (chunk_row list_rule FreeListChunk l) (list_row object memory_type)
      (λ e i. (object e.1.memory, record { memory_type = sym typed i; counted = e.1.size; kind = FreeListChunk e.1.number }))

-- Its live blocks.

-- what a live block is listed as
abbrev pub slot_row : ℕ × Slot → LiveSpan
slot_row e = record { object = e.1.object; offset = e.1.offset; size = e.1.size; chunk = 0; index = e.0 }

module _ (l : FreeListState) (sound : IsSoundFreeList l) (listed : List (ℕ × Slot)) (lists : ListsSlots l.space.live listed) where
  under : (e : ℕ × Slot) → Contains listed e → get lists.slots e.0 ≡ Some e.1
  under e has = (Contains-entries lists.slots e.0 e.1).0 (subst (λ (es : List (ℕ × Slot)). Contains es e) lists.are has)

  -- a block is live where a row has it
  is_live : (slot : Slot) → Decides (set.contains l.space.live slot) ((key : ℕ) × (row : Slot) × (get lists.slots key ≡ Some row) × (row ≡ slot))
  is_live slot =
      let of_rows = in_set slot_total slot_exact (λ (s : Slot). s) lists.slots slot in
      let same = ap (λ (s : set.FinSet slot_cmp). set.contains s slot) lists.exact in
      (λ live. of_rows.0 (sym same ∙ live), λ there. same ∙ of_rows.1 there)

  one_row : HasOneKeyEach (block_span list_rule) lists.slots
  one_row i k a b at_i at_k same =
      lists.once i k a b at_i at_k (one_slot l sound a b ((is_live a).1 (i, a, at_i, refl)) ((is_live b).1 (k, b, at_k, refl)) same)

  spans_apart : AreNamedApart (λ (e : ℕ × Slot). block_span list_rule e.1) listed
  spans_apart = subst (AreNamedApart (λ (e : ℕ × Slot). block_span list_rule e.1)) (sym lists.are) (rows_apart (block_span list_rule) lists.slots one_row)

  abbrev block : ℕ × Slot → Slot
  block e = e.1

  listed_live : (slot : Slot) → Decides (set.contains l.space.live slot) ((e : ℕ × Slot) × Contains listed e × (block e ≡ slot))
  listed_live slot = (
    λ live.
        let row = (is_live slot).0 live in
        ((row.0, row.1), subst (λ (es : List (ℕ × Slot)). Contains es (row.0, row.1)) (sym lists.are) ((Contains-entries lists.slots row.0 row.1).1 row.2), row.3),
    λ there. (is_live slot).1 (there.0.0, there.0.1, under there.0 there.1, there.2),
  )

  named_so : map span_in (map slot_row listed) ≡ map (λ (e : ℕ × Slot). block_span list_rule e.1) listed
  named_so = mapped_twice slot_row span_in (λ e. block_span list_rule e.1) (λ e. refl) listed

  pub slot_rows_are : set.from_list (map span_in (map slot_row listed)) ≡ (list_part l).live
  slot_rows_are = ap (λ (xs : List Span). set.from_list {R = span_cmp} xs) named_so ∙ spans_are slot_total slot_exact (block_span list_rule) l.space.live block listed listed_live

  pub slot_rows_once : AreOnce (map span_in (map slot_row listed))
  slot_rows_once = subst AreOnce (sym named_so) (once_named (λ (e : ℕ × Slot). block_span list_rule e.1) listed spans_apart)
