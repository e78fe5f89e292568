-- What the allocator's fields keep, as its state describes it.
use Rattle.std.proofs.Common.{◌≡◌, ◌≢◌, ◌⊎◌, inl, inr, ℕ, zero, suc, ◌+◌, ◌<◌, ◌≤◌, true, false, List, [], ◌∷◌, length, Option, option_map, Some, None, IfSome, IsSome, slice_get, refl, sym, ◌∙◌, ap, subst, arith}
use Rattle.std.proofs.lemmas.Bool.{cases_eq, cases_lt, cases_Bool}
use Rattle.std.proofs.lemmas.Nat.{pow_pos}
use Rattle.std.specs.FinMap as map
use Rattle.gpu_alloc_types.specs.Properties.{Properties, atom_of, heap_size, is_non_coherent}
use Rattle.gpu_alloc_buddy.specs.BuddyRule.{buddy_rule}
use Rattle.gpu_alloc_buddy.specs.BuddyState.{Buddy, IsLiveBuddyLeaf}
use Rattle.gpu_alloc_base.specs.Chunks.{Chunk}
use Rattle.gpu_alloc_base.specs.declared.buddy_block.Leaf.{Leaf}
use Rattle.gpu_alloc_freelist.specs.FreeListRule.{list_rule}
use Rattle.gpu_alloc_freelist.specs.FreeListState.{FreeListState, IsLiveSlot}
use Rattle.gpu_alloc_base.specs.FreeSpace.{IsIn, IsMultipleOf, IsPowerOfTwo}
use Rattle.gpu_alloc.specs.Atoms.{KeepsAtoms, IsNextFitChunk, IsNextListChunk}
use Rattle.gpu_alloc.specs.FitSharing.{fit_chunk_of, grain, grain_of, next_fit_chunk, IsFitChunk, IsFitChunkSize, IsFitSize}
use Rattle.gpu_alloc.specs.FreeListSharing.{IsListChunk, latest_number, list_chunk_of, next_list_chunk, number_of}
use Rattle.gpu_alloc.specs.FirstTypes.{first_types, first_type_state}
use Rattle.gpu_alloc.specs.Inside.{state_in, types_with, properties_in, IsLiveIn, IsKnown, offer_of}
use Rattle.gpu_alloc.proofs.Wholes.{read_is, stands_at}
use Rattle.gpu_alloc.proofs.Linked.{IsBuddyOf, IsChosenOf, IsConsistent, IsEachOf, IsFitOf, IsListOf}
use Rattle.gpu_alloc.specs.Sound.{IsSound, IsUnused, LiesIn, is_chosen, may_be_unused}
use Rattle.gpu_alloc.specs.Spans.{Table}
use Rattle.gpu_alloc.specs.Stores.{block_span, chosen_sizes, type_sizes}
use Rattle.gpu_alloc.specs.declared.allocator.stores.Chosen.{Chosen}
use Rattle.gpu_alloc.specs.declared.allocator.stores.Chosen.TheVariants.{Buddy as InBuddies, Fit as InFits}
use Rattle.gpu_alloc_base.specs.Sizes.{starting_size}
use Rattle.gpu_alloc_block.specs.Parts.{IsAt}
use Rattle.std.proofs.lemmas.Option.{slice_get-map}
use Rattle.gpu_alloc_block.specs.State.{HeldObject, Span, State, TypeState, AreSpansApart, is_shared}
use Rattle.gpu_alloc_block.specs.declared.block.Kind.TheVariants.{BuddyChunk, FreeListChunk, FitChunk}
use Rattle.gpu_alloc_block.specs.declared.sharing.Sharing.{Sharing}
use Rattle.gpu_alloc_base.specs.declared.config.Config.{Config}
use Rattle.gpu_alloc_base.specs.declared.heap.Heap.{Heap}
use Rattle.gpu_alloc.specs.declared.limits.Limits.{Limits}
use Rattle.gpu_alloc.proofs.Links.{slot_at}
use Rattle.gpu_alloc.proofs.Consistency.{chunk_kinds}
use Rattle.gpu_alloc.proofs.HeapLists.{heap_is}
use Rattle.std.proofs.lemmas.List.{length-map}
use Rattle.gpu_alloc.proofs.Buddies.Named.{buddy_named}
use Rattle.gpu_alloc.proofs.Fits.Named.{fit_in, fit_is_named, fit_named}
use Rattle.gpu_alloc.proofs.FreeLists.Named.{list_is_named, slot_there, under_number}
use Rattle.gpu_alloc.proofs.Shared.Calls.{sizes_read}
use Rattle.gpu_alloc.proofs.Shared.Stores.{IsHeldAs}
use Rattle.gpu_alloc.proofs.Shared.Types.{types_within}
use Rattle.gpu_alloc.proofs.Fits.Small.{cut_some, largest_bound}
use Rattle.gpu_alloc.proofs.Opened.{atom_found, first_sized, size_found, starting_within}
use Rattle.gpu_alloc.proofs.Atoms.{atom_power}
use Rattle.gpu_alloc_base.proofs.Maps.{one_value}
use Rattle.gpu_alloc_base.proofs.PowersOfTwo.{power_of_bit}
use Rattle.gpu_alloc_fit.specs.Fit.{FitState}
use Rattle.gpu_alloc_fit.specs.FitRule.{fit_rule}
use Rattle.gpu_alloc_runs.specs.Space.{IsWhollyFree, IsLiveSlot as IsLiveFit}
use Rattle.gpu_alloc.specs.declared.allocator.stores.TypeStores.{TypeStores}

-- two ranges with no byte in both are apart
pub ranges_apart : (a m b n : ℕ) → 0 < m → 0 < n → ((at : ℕ) → IsIn a m at → IsIn b n at → ⊥) → (a + m ≤ b) ⊎ (b + n ≤ a)
ranges_apart a m b n some also clash = elim (cases_lt a (b + n)) [
  | inl before ↦ elim (cases_lt b (a + m)) [
    | inl after ↦ elim (cases_lt a b) [
      | inl later ↦ absurd (clash b (record { from = omega (arith, later); to = after }) (record { from = omega arith; to = omega (arith, also) }))
      | inr earlier ↦ absurd (clash a (record { from = omega arith; to = omega (arith, some) }) (record { from = earlier; to = before }))
    ]
    | inr past ↦ inl past
  ]
  | inr past ↦ inr past
]

-- what holds of each element that is there holds of one
element : {X : Type 0} (P : X → Type 0) (xs : List X) (i : ℕ) → i < length xs → IfSome (slice_get xs i) P → (x : X) × P x
element P [] i inside is = absurd (omega (arith, inside))
element P (x ∷ xs) zero inside is = (x, is)
element P (x ∷ xs) (suc i) inside is = element P xs i (omega (arith, inside)) is

-- a live span of this table
abbrev HasSpan : Table → ℕ → Type 0
HasSpan t object = (span : Span) × IsLiveIn t span × (span.object ≡ object)

-- what is found is there
some_is : {X : Type 0} (o : Option X) (x : X) → o ≡ Some x → IsSome o
some_is None x is = absurd (cc)
some_is (Some y) x is = refl

-- A buddy chunk.

-- an object that is held as one
abbrev chunk_at : ℕ → HeldObject → Chunk
chunk_at object h = record { object = object; size = h.counted }

module _ {c : Config} {p : Properties} {t : Table} {b : Buddy} {object : ℕ} {h : HeldObject} (is : IsBuddyOf c p t h.memory_type b) (held : map.get t.held object ≡ Some h) (kind : h.kind ≡ BuddyChunk) where
  held_as : IsHeldAs buddy_named t b object h
  held_as = record { key = 0; held = held; of_kind = kind; of_type = sym is.for_type.memory_type }

  by_key : (key : ℕ) × (map.get b.chunks key ≡ Some (chunk_at object h))
  by_key = let there = is.linked.objects object h held_as in (there.0, there.1)

  -- a live span is a live block of the chunk
  leaf_of : (span : Span) → IsLiveIn t span → span.object ≡ object → (leaf : Leaf) × IsLiveBuddyLeaf b leaf × (block_span buddy_rule leaf ≡ span)
  leaf_of span live named = is.linked.spans span h live (subst (λ o. IsHeldAs buddy_named t b o h) (sym named) held_as)

  of_chunk : (leaf : Leaf) → IsLiveBuddyLeaf b leaf → leaf.object ≡ object → (leaf.chunk ≡ by_key.0) × (leaf.offset + leaf.size ≤ h.counted) × (0 < leaf.size)
  of_chunk leaf live named =
      let lies = is.sound.space.inside leaf live in
      let key = is.sound.space.one_object leaf.chunk by_key.0 lies.chunk (chunk_at object h) lies.held by_key.1 (sym lies.object ∙ named) in
      let same : lies.chunk ≡ chunk_at object h = one_value _ lies.chunk (chunk_at object h) lies.held (ap (λ k. map.get b.chunks k) key ∙ by_key.1) in
      (key, omega (arith, lies.inside, ap (λ (x : Chunk). x.size) same), omega (arith, lies.power.1, pow_pos lies.power.0))

  buddy_size : (span : Span) → IsLiveIn t span → span.object ≡ object → IsPowerOfTwo span.size × IsMultipleOf span.size span.offset
  buddy_size span live named =
      let leaf = leaf_of span live named in
      let lies = is.sound.space.inside leaf.0 leaf.1 in
      subst (λ (s : Span). IsPowerOfTwo s.size × IsMultipleOf s.size s.offset) leaf.2 (lies.power, lies.aligned)

  buddy_inside : (span : Span) → IsLiveIn t span → span.object ≡ object → span.offset + span.size ≤ h.counted
  buddy_inside span live named =
      let leaf = leaf_of span live named in
      subst (λ (s : Span). s.offset + s.size ≤ h.counted) leaf.2 (of_chunk leaf.0 leaf.1 (ap (λ (s : Span). s.object) leaf.2 ∙ named)).1

  buddy_apart : (x y : Span) → IsLiveIn t x → IsLiveIn t y → x.object ≡ object → y.object ≡ object → x ≢ y → (x.offset + x.size ≤ y.offset) ⊎ (y.offset + y.size ≤ x.offset)
  buddy_apart x y live also named same other =
      let leaf = leaf_of x live named in
      let leaf' = leaf_of y also same in
      let of = of_chunk leaf.0 leaf.1 (ap (λ (s : Span). s.object) leaf.2 ∙ named) in
      let of' = of_chunk leaf'.0 leaf'.1 (ap (λ (s : Span). s.object) leaf'.2 ∙ same) in
      subst (λ (s : Span). (s.offset + s.size ≤ y.offset) ⊎ (y.offset + y.size ≤ s.offset)) leaf.2
      (subst (λ (s : Span). (leaf.0.offset + leaf.0.size ≤ s.offset) ⊎ (s.offset + s.size ≤ leaf.0.offset)) leaf'.2
      (ranges_apart leaf.0.offset leaf.0.size leaf'.0.offset leaf'.0.size of.2 of'.2
      (λ at i j. other (sym leaf.2 ∙ ap (block_span buddy_rule) (is.sound.space.apart leaf.0 leaf'.0 leaf.1 leaf'.1 (of.0 ∙ sym of'.0) at i j) ∙ leaf'.2))))

  chunk_used : HasSpan t object
  chunk_used =
      let leaf = is.sound.space.used by_key.0 (chunk_at object h) by_key.1 in
      let lies = is.sound.space.inside leaf.0 leaf.1.0 in
      let same : lies.chunk ≡ chunk_at object h = one_value _ lies.chunk (chunk_at object h) lies.held (ap (λ k. map.get b.chunks k) leaf.1.1 ∙ by_key.1) in
      (block_span buddy_rule leaf.0, is.linked.blocks leaf.0 leaf.1.0, lies.object ∙ ap (λ (x : Chunk). x.object) same)

-- A chunk of a free list.

module _ {c : Config} {p : Properties} {t : Table} {l : FreeListState} {object number : ℕ} {h : HeldObject} (is : IsListOf c p t h.memory_type l) (held : map.get t.held object ≡ Some h) (kind : h.kind ≡ FreeListChunk number) where
  -- a live span is a live block of the chunk
  slot_of : (span : Span) → IsLiveIn t span → span.object ≡ object → IsLiveSlot l.space (slot_at span number)
  slot_of span live named = slot_there is.linked is.sound number span h (ap (map.get t.held) named ∙ held) kind (sym is.for_type.memory_type) live

  of_slot : (span : Span) → span.object ≡ object → IsLiveSlot l.space (slot_at span number) → (span.offset + span.size ≤ h.counted) × (0 < span.size)
  of_slot span named live =
      let lies = is.sound.space.inside (slot_at span number) live in
      let same : lies.chunk ≡ chunk_at object h = one_value _ lies.chunk (chunk_at object h) lies.held (under_number is.linked number object h held kind (sym is.for_type.memory_type)) in
      (omega (arith, lies.inside, ap (λ (x : Chunk). x.size) same), lies.nonempty)

  list_inside : (span : Span) → IsLiveIn t span → span.object ≡ object → span.offset + span.size ≤ h.counted
  list_inside span live named = (of_slot span named (slot_of span live named)).0

  list_apart : (x y : Span) → IsLiveIn t x → IsLiveIn t y → x.object ≡ object → y.object ≡ object → x ≢ y → (x.offset + x.size ≤ y.offset) ⊎ (y.offset + y.size ≤ x.offset)
  list_apart x y live also named same other =
      let slot = slot_of x live named in
      let slot' = slot_of y also same in
      ranges_apart x.offset x.size y.offset y.size (of_slot x named slot).1 (of_slot y same slot').1
      (λ at i j. other (ap (block_span list_rule) (is.sound.space.apart (slot_at x number) (slot_at y number) slot slot' refl at i j)))

-- A fit chunk.

module _ {c : Config} {p : Properties} {t : Table} {f : FitState} {object : ℕ} {h : HeldObject} (is : IsFitOf c p t h.memory_type f) (held : map.get t.held object ≡ Some h) (kind : h.kind ≡ FitChunk) where
  fit_held : IsHeldAs fit_named t f object h
  fit_held = record { key = 0; held = held; of_kind = kind; of_type = sym is.for_type.memory_type }

  fit_key : (key : ℕ) × (map.get f.space.chunks key ≡ Some (chunk_at object h))
  fit_key = let there = is.linked.objects object h fit_held in (there.0, there.1)

  -- a live span is a live block of the chunk
  fit_slot : (span : Span) → IsLiveIn t span → span.object ≡ object → (key : ℕ) × IsLiveFit f.space (slot_at span key)
  fit_slot span live named =
      let there = is.linked.spans span h live (subst (λ o. IsHeldAs fit_named t f o h) (sym named) fit_held) in
      (there.0.chunk, subst (λ (s : Span). IsLiveFit f.space (slot_at s there.0.chunk)) there.2 there.1)

  of_fit : (span : Span) (key : ℕ) → IsLiveFit f.space (slot_at span key) → span.object ≡ object → (key ≡ fit_key.0) × (span.offset + span.size ≤ h.counted) × (0 < span.size)
  of_fit span key live named =
      let lies = is.sound.space.inside (slot_at span key) live in
      let own = is.sound.space.one_object key fit_key.0 lies.chunk (chunk_at object h) lies.held fit_key.1 (sym lies.object ∙ named) in
      let same : lies.chunk ≡ chunk_at object h = one_value _ lies.chunk (chunk_at object h) lies.held (ap (λ k. map.get f.space.chunks k) own ∙ fit_key.1) in
      (own, omega (arith, lies.inside, ap (λ (x : Chunk). x.size) same), lies.nonempty)

  fit_inside : (span : Span) → IsLiveIn t span → span.object ≡ object → span.offset + span.size ≤ h.counted
  fit_inside span live named =
      let slot = fit_slot span live named in
      (of_fit span slot.0 slot.1 named).1

  fit_apart : (x y : Span) → IsLiveIn t x → IsLiveIn t y → x.object ≡ object → y.object ≡ object → x ≢ y → (x.offset + x.size ≤ y.offset) ⊎ (y.offset + y.size ≤ x.offset)
  fit_apart x y live also named same other =
      let slot = fit_slot x live named in
      let slot' = fit_slot y also same in
      let of = of_fit x slot.0 slot.1 named in
      let of' = of_fit y slot'.0 slot'.1 same in
      ranges_apart x.offset x.size y.offset y.size of.2 of'.2
      (λ at i j. other (ap (block_span fit_rule) (is.sound.space.apart (slot_at x slot.0) (slot_at y slot'.0) slot.1 slot'.1 (of.0 ∙ sym of'.0) at i j)))

  -- a live span lies in it from grain to grain
  fit_grains : (span : Span) → IsLiveIn t span → span.object ≡ object → IsMultipleOf (grain (atom_of p h.memory_type)) span.offset × IsMultipleOf (grain (atom_of p h.memory_type)) span.size
  fit_grains span live named =
      let slot = fit_slot span live named in
      subst (λ g. IsMultipleOf g span.offset × IsMultipleOf g span.size) is.for_type.atom (is.sound.slots (slot_at span slot.0) slot.1)

  -- without a live span it is wholly free
  wholly_free : ((span : Span) → IsLiveIn t span → span.object ≢ object) → IsWhollyFree f.space fit_key.0
  wholly_free unused = record {
    held = some_is _ (chunk_at object h) fit_key.1;
    unused = λ slot live there.
        let lies = is.sound.space.inside slot live in
        let same : lies.chunk ≡ chunk_at object h = one_value _ lies.chunk (chunk_at object h) lies.held (ap (λ k. map.get f.space.chunks k) there ∙ fit_key.1) in
        unused (block_span fit_rule slot) (is.linked.blocks slot live) (lies.object ∙ ap (λ (x : Chunk). x.object) same);
  }

-- Each held object.

-- a chunk's kind says which was chosen
module _ {M X : Type 0} {c : Config} {p : Properties} {t : Table} (sharing : Sharing) where
  buddy_chosen : (i : ℕ) (x : Chosen M X) → IsChosenOf c p t sharing i x → is_chosen sharing BuddyChunk ≡ true → (b : Buddy) × IsBuddyOf c p t i b
  buddy_chosen i (InBuddies b) is chosen = (b, is.1)
  buddy_chosen i (InFits f) is chosen = absurd (let never : false ≡ true = ap (λ s. is_chosen s BuddyChunk) (sym is.0) ∙ chosen in cc)

  fit_chosen : (i : ℕ) (x : Chosen M X) → IsChosenOf c p t sharing i x → is_chosen sharing FitChunk ≡ true → (f : FitState) × IsFitOf c p t i f
  fit_chosen i (InBuddies b) is chosen = absurd (let never : false ≡ true = ap (λ s. is_chosen s FitChunk) (sym is.0) ∙ chosen in cc)
  fit_chosen i (InFits f) is chosen = (f, is.1)

module _ {M X : Type 0} {sharing : Sharing} {c : Config} {p : Properties} {t : Table} {ss : List (TypeStores M X)} {heaps : List Heap} {remaining : ℕ} (is : IsConsistent sharing c p heaps ss t remaining) where
  known_at : (object : ℕ) (h : HeldObject) → map.get t.held object ≡ Some h → IsKnown t p object h
  known_at object h held = subst (λ (o : Option HeldObject). IfSome o (IsKnown t p object)) held (is.books.known object)

  stores_at : (object : ℕ) (h : HeldObject) → map.get t.held object ≡ Some h → (e : TypeStores M X) × IsEachOf c p t sharing h.memory_type e
  stores_at object h held = element (IsEachOf c p t sharing h.memory_type) ss h.memory_type (omega (arith, (known_at object h held).of_type, is.shared.count)) (is.shared.each h.memory_type)

  buddy_at : (object : ℕ) (h : HeldObject) → map.get t.held object ≡ Some h → h.kind ≡ BuddyChunk → (b : Buddy) × IsBuddyOf c p t h.memory_type b
  buddy_at object h held kind = let there = stores_at object h held in buddy_chosen sharing h.memory_type there.0.chosen there.1.chosen (ap (is_chosen sharing) (sym kind) ∙ is.chosen object h held)

  list_at : (object : ℕ) (h : HeldObject) → map.get t.held object ≡ Some h → (l : FreeListState) × IsListOf c p t h.memory_type l
  list_at object h held = let there = stores_at object h held in (there.0.free_list, there.1.free_list)

  fit_at : (object : ℕ) (h : HeldObject) → map.get t.held object ≡ Some h → h.kind ≡ FitChunk → (f : FitState) × IsFitOf c p t h.memory_type f
  fit_at object h held kind = let there = stores_at object h held in fit_chosen sharing h.memory_type there.0.chosen there.1.chosen (ap (is_chosen sharing) (sym kind) ∙ is.chosen object h held)

  -- the live spans of a chunk are inside and apart
  chunk_inside : (object : ℕ) (h : HeldObject) → map.get t.held object ≡ Some h → is_shared h.kind ≡ true → (span : Span) → IsLiveIn t span → span.object ≡ object → span.offset + span.size ≤ h.counted
  chunk_inside object h held kind = elim (chunk_kinds h.kind kind) [
    | inl of_buddy ↦ buddy_inside (buddy_at object h held of_buddy).1 held of_buddy
    | inr (inl of_list) ↦ list_inside (list_at object h held).1 held of_list.1
    | inr (inr of_fit) ↦ fit_inside (fit_at object h held of_fit).1 held of_fit
  ]

  chunk_apart : (object : ℕ) (h : HeldObject) → map.get t.held object ≡ Some h → is_shared h.kind ≡ true
      → (x y : Span) → IsLiveIn t x → IsLiveIn t y → x.object ≡ object → y.object ≡ object → x ≢ y → (x.offset + x.size ≤ y.offset) ⊎ (y.offset + y.size ≤ x.offset)
  chunk_apart object h held kind = elim (chunk_kinds h.kind kind) [
    | inl of_buddy ↦ buddy_apart (buddy_at object h held of_buddy).1 held of_buddy
    | inr (inl of_list) ↦ list_apart (list_at object h held).1 held of_list.1
    | inr (inr of_fit) ↦ fit_apart (fit_at object h held of_fit).1 held of_fit
  ]

  -- an object of one block has one live span
  is_alone : (object : ℕ) (h : HeldObject) → map.get t.held object ≡ Some h → is_shared h.kind ≡ false → (x y : Span) → IsLiveIn t x → IsLiveIn t y → x.object ≡ object → y.object ≡ object → x ≡ y
  is_alone object h held own x y live also named same = let one = (known_at object h held).one_span own in one.alone x live named ∙ sym (one.alone y also same)

  lies_inside : (span : Span) → IsLiveIn t span → (h : HeldObject) × (map.get t.held span.object ≡ Some h) × LiesIn h.kind h.counted span
  lies_inside span live =
      let of = is.books.spans span live in
      let in_chunk : is_shared of.object.kind ≡ true → span.offset + span.size ≤ of.object.counted = λ kind. chunk_inside span.object of.object of.held kind span live refl in (
        of.object,
        of.held,
        elim (cases_Bool (is_shared of.object.kind)) [
          | inl kind ↦ elim (chunk_kinds of.object.kind kind) [
            | inl of_buddy ↦ subst (λ k. LiesIn k of.object.counted span) (sym of_buddy) (in_chunk kind)
            | inr (inl of_list) ↦ subst (λ k. LiesIn k of.object.counted span) (sym of_list.1) (in_chunk kind)
            | inr (inr of_fit) ↦ subst (λ k. LiesIn k of.object.counted span) (sym of_fit) (in_chunk kind)
          ]
          | inr own ↦ let one = (known_at span.object of.object of.held).one_span own in subst (LiesIn of.object.kind of.object.counted) (sym (one.alone span live refl)) one.lies
        ],
      )

  are_apart : (x y : Span) → IsLiveIn t x → IsLiveIn t y → x ≢ y → AreSpansApart x y
  are_apart x y live also other = elim (cases_eq x.object y.object) [
    | inl same ↦
        let of = is.books.spans x live in
        elim (cases_Bool (is_shared of.object.kind)) [
          | inl kind ↦ inr (chunk_apart x.object of.object of.held kind x y live also refl (sym same) other)
          | inr own ↦ absurd (other (is_alone x.object of.object of.held own x y live also refl (sym same)))
        ]
    | inr apart ↦ inl apart
  ]

  -- a chunk of a free list and a fit chunk may be kept in which nothing is live, and nothing else is held so
  is_used : (object : ℕ) (h : HeldObject) → map.get t.held object ≡ Some h → may_be_unused h.kind ≡ false → HasSpan t object
  is_used object h held never = elim (cases_Bool (is_shared h.kind)) [
    | inl kind ↦ elim (chunk_kinds h.kind kind) [
      | inl of_buddy ↦ chunk_used (buddy_at object h held of_buddy).1 held of_buddy
      | inr (inl of_list) ↦ absurd (let both = ap may_be_unused (sym of_list.1) ∙ never in cc)
      | inr (inr of_fit) ↦ absurd (let both = ap may_be_unused (sym of_fit) ∙ never in cc)
    ]
    | inr own ↦ let one = (known_at object h held).one_span own in (one.span, one.live, one.of_object)
  ]

  each_used : (object : ℕ) (o : Option HeldObject) → map.get t.held object ≡ o → IfSome o (λ h. may_be_unused h.kind ≡ false → HasSpan t object)
  each_used object None none = tt
  each_used object (Some h) held = is_used object h held

-- Next fit chunks where none are chosen.

-- what stands at a place
there_is : {X : Type 0} (xs : List X) (i : ℕ) → i < length xs → (x : X) × (slice_get xs i ≡ Some x)
there_is [] i inside = absurd (omega (arith, inside))
there_is (x ∷ xs) zero inside = (x, refl)
there_is (x ∷ xs) (suc i) inside = there_is xs i (omega (arith, inside))

-- what is read of a memory type's sizes
type_read : {X : Type 0} (g : X → TypeState → TypeState) (types : List TypeState) (xs : List X) (i : ℕ) (type : TypeState) (x : X) → slice_get types i ≡ Some type → IsAt xs i x → slice_get (types_with g types xs) i ≡ Some (g x type)
type_read g [] xs i type x found at = absurd (cc)
type_read g (y ∷ types) [] i type x found at = absurd at
type_read g (y ∷ types) (z ∷ xs) zero type x found at = (let same : y ≡ type = cc in λ k. Some (g (at k) (same k)))
type_read g (y ∷ types) (z ∷ xs) (suc i) type x found at = type_read g types xs i type x found at

-- the first size stays
first_fit_stays : {M X : Type 0} (c : Config) (p : Properties) (ss : List (TypeStores M X)) (i : ℕ) (e : TypeStores M X) (b : Buddy) → IsAt ss i e → e.chosen ≡ InBuddies b → i < length p.memory_types
    → fit_chunk_of (slice_get (types_with type_sizes (first_types c p) ss) i) ≡ starting_size c (heap_size p i) (grain (atom_of p i))
first_fit_stays c p ss i e b at it known =
    let own = there_is p.memory_types i known in
    let found = slice_get-map (first_type_state c p) p.memory_types i ∙ ap (option_map (first_type_state c p)) own.1 in
    ap fit_chunk_of (type_read type_sizes (first_types c p) ss i (first_type_state c p own.0) e found at)
    ∙ ap (λ x. (chosen_sizes x (record (first_type_state c p own.0) { list_chunk = e.free_list.next_chunk; number = e.free_list.space.latest })).fit_chunk) it
    ∙ (λ k. starting_size c (sym (size_found p i own.0 own.1) k) (grain (sym (atom_found p i own.0 own.1) k)))

-- The whole state.

module _ {A M X : Type 0} (l : Limits A) (heaps : List Heap) (ss : List (TypeStores M X)) (t : Table) (remaining : ℕ)
    (is : IsConsistent l.sharing l.config (properties_in l heaps) heaps ss t remaining) (index number : ℕ) where
  abbrev s : State
  s = state_in l heaps ss t remaining

  -- The stores of a memory type that is known.

  module _ (known : index < length (properties_in l heaps).memory_types) where
    own_stores : (e : TypeStores M X) × (slice_get ss index ≡ Some e)
    own_stores = there_is ss index (omega (arith, known, is.shared.count))

    stores_own : IsEachOf l.config (properties_in l heaps) t l.sharing index own_stores.0
    stores_own = subst (λ (o : Option (TypeStores M X)). IfSome o (IsEachOf l.config (properties_in l heaps) t l.sharing index)) own_stores.1 (is.shared.each index)

    own_at : IsAt ss index own_stores.0
    own_at = stands_at ss index own_stores.0 own_stores.1

    abbrev first : List TypeState
    first = first_types l.config (properties_in l heaps)

    first_known : index < length first
    first_known = omega (arith, known, length-map (properties_in l heaps).memory_types (first_type_state l.config (properties_in l heaps)))

    typed : index < length (types_with type_sizes first ss)
    typed = types_within type_sizes first ss index first_known (omega (arith, known, is.shared.count))

    -- Its free list.

    abbrev own_list : FreeListState
    own_list = own_stores.0.free_list

    list_own : IsListOf l.config (properties_in l heaps) t index own_list
    list_own = stores_own.free_list

    latest_is : latest_number s index ≡ own_list.space.latest
    latest_is = sizes_read list_is_named ss index own_stores.0 own_list own_at refl first typed number_of own_list.space.latest (λ type. refl)

    next_is : next_list_chunk s index ≡ own_list.next_chunk
    next_is = sizes_read list_is_named ss index own_stores.0 own_list own_at refl first typed list_chunk_of own_list.next_chunk (λ type. refl)

    next_whole : IsNextListChunk s index
    next_whole =
        let sound = list_own.sound in
        let given = list_own.for_type in
        record {
          some = omega (arith, next_is, sound.next_chunk.0.1);
          whole = subst (λ n. IsMultipleOf n (next_list_chunk s index)) given.atom (subst (IsMultipleOf own_list.atom) (sym next_is) sound.next_chunk.0.0);
          most = omega (arith, next_is, given.final_chunk, sound.next_chunk.1);
          bound = omega (arith, given.final_chunk, sound.final_chunk.1);
        }

    -- Its fit chunks, where they are chosen; else the first size stays the next one.

    abbrev IsNext : Type 0
    IsNext = IsNextFitChunk s index × IsFitSize s index (next_fit_chunk s index)

    next_by : (x : Chosen M X) → own_stores.0.chosen ≡ x → IsChosenOf l.config (properties_in l heaps) t l.sharing index x → IsNext
    next_by (InBuddies b) it is =
        let p = properties_in l heaps in
        let g = grain (atom_of p index) in
        let stays = first_fit_stays l.config p ss index own_stores.0 b own_at it known in
        let within = starting_within l.config (heap_size p index) g (omega arith) in (
          record {
            some = omega (arith, stays, cut_some (heap_size p index) g l.config.starting_free_list_chunk (omega arith));
            most = omega (arith, stays, within);
            bound = largest_bound l.config (heap_size p index) (atom_of p index) (omega (arith, list_own.sound.atom.1.1, pow_pos list_own.sound.atom.0, list_own.for_type.atom)) (omega (arith, list_own.for_type.final_chunk, list_own.sound.final_chunk.1));
          },
          subst (IsFitSize s index) (sym stays) (first_sized l.config (heap_size p index) g (omega arith)),
        )
    next_by (InFits f) it is =
        let next = sizes_read fit_is_named ss index own_stores.0 f own_at (ap fit_in it) first typed fit_chunk_of f.next_chunk (λ type. refl) in
        let sound = is.1.sound in
        let given = is.1.for_type in (
          record {
            some = omega (arith, next, sound.next_chunk.0.1);
            most = omega (arith, next, given.final_chunk, sound.next_chunk.1);
            bound = omega (arith, given.final_chunk, sound.final_chunk.1);
          },
          subst (IsFitSize s index) (sym next) is.1.sized.next,
        )

    next_fit : IsNext
    next_fit = next_by own_stores.0.chosen refl stores_own.chosen

  -- The chunks of its free list.

  type_known : (object : ℕ) → IsListChunk s index number object → index < length (properties_in l heaps).memory_types
  type_known object of = subst (λ n. n < length (properties_in l heaps).memory_types) of.of_type (known_at is object of.chunk of.held).of_type

  module _ (fl : FreeListState) (own : IsListOf l.config (properties_in l heaps) t index fl) where
    -- a chunk's object is held under its number
    chunk_under : (object : ℕ) (of : IsListChunk s index number object) → map.get fl.space.chunks number ≡ Some (chunk_at object of.chunk)
    chunk_under object of = under_number own.linked number object of.chunk of.held of.of_kind (of.of_type ∙ sym own.for_type.memory_type)

  one_object : (a b : ℕ) → IsListChunk s index number a → IsListChunk s index number b → a ≡ b
  one_object a b of also =
      let known = type_known a of in
      let fl = (own_list known) in
      let own = list_own known in
      ap (λ (c : Chunk). c.object) (one_value _ (chunk_at a of.chunk) (chunk_at b also.chunk) (chunk_under fl own a of) (chunk_under fl own b also))

  within : (object : ℕ) → IsListChunk s index number object → (0 < number) × (number ≤ latest_number s index)
  within object of =
      let known = type_known object of in
      let own = list_own known in
      let is_number = own.sound.space.numbers number (chunk_at object of.chunk) (chunk_under (own_list known) own object of) in
      (is_number.0, omega (arith, is_number.1, latest_is known))

  -- it ends, and a live span in it begins, at a whole atom
  chunk_ends : (object : ℕ) (of : IsListChunk s index number object) → IsMultipleOf (atom_of s.properties index) of.chunk.counted
  chunk_ends object of =
      let known = type_known object of in
      let own = list_own known in
      subst (λ n. IsMultipleOf n of.chunk.counted) own.for_type.atom (own.sound.chunks number (chunk_at object of.chunk) (chunk_under (own_list known) own object of)).0

  span_begins : (span : Span) → IsListChunk s index number span.object → IsLiveIn t span → IsMultipleOf (atom_of s.properties index) span.offset
  span_begins span of live =
      let known = type_known span.object of in
      let own = list_own known in
      subst (λ n. IsMultipleOf n span.offset) own.for_type.atom (own.sound.slots (slot_at span number) (slot_there own.linked own.sound number span of.chunk of.held of.of_kind (of.of_type ∙ sym own.for_type.memory_type) live)).0

  -- Its fit chunks: their sizes, and the live spans in them.

  fit_sized : (object : ℕ) (of : IsFitChunk s index object) → IsFitSize s index of.chunk.counted
  fit_sized object of =
      let there = fit_at is object of.chunk of.held of.of_kind in
      let key = fit_key there.1 of.held of.of_kind in
      let p = properties_in l heaps in
      subst (λ i. IsFitChunkSize l.config (heap_size p i) (grain (atom_of p i)) of.chunk.counted) of.of_type (there.1.sized.chunks key.0 (chunk_at object of.chunk) key.1)

  fit_whole : (span : Span) → IsFitChunk s index span.object → IsLiveIn t span → IsMultipleOf (grain_of s index) span.offset × IsMultipleOf (grain_of s index) span.size
  fit_whole span of live =
      let there = fit_at is span.object of.chunk of.held of.of_kind in
      let p = properties_in l heaps in
      subst (λ i. IsMultipleOf (grain (atom_of p i)) span.offset × IsMultipleOf (grain (atom_of p i)) span.size) of.of_type (fit_grains there.1 of.held of.of_kind span live refl)

  -- Of those without a live span there is one.

  module _ (f : FitState) (own : IsFitOf l.config (properties_in l heaps) t index f) where
    own_fit : (object : ℕ) (of : IsFitChunk s index object) → IsFitOf l.config (properties_in l heaps) t of.chunk.memory_type f
    own_fit object of = subst (λ i. IsFitOf l.config (properties_in l heaps) t i f) (sym of.of_type) own

    one_without : (a b : ℕ) → IsFitChunk s index a → IsFitChunk s index b → IsUnused s a → IsUnused s b → a ≡ b
    one_without a b of also unused idle =
        let key = fit_key (own_fit a of) of.held of.of_kind in
        let key' = fit_key (own_fit b also) also.held also.of_kind in
        let same = own.sound.space.one_free key.0 key'.0 (wholly_free (own_fit a of) of.held of.of_kind unused) (wholly_free (own_fit b also) also.held also.of_kind idle) in
        ap (λ (c : Chunk). c.object) (one_value _ (chunk_at a of.chunk) (chunk_at b also.chunk) key.1 (ap (λ k. map.get f.space.chunks k) same ∙ key'.1))

  one_idle : (a b : ℕ) → IsFitChunk s index a → IsFitChunk s index b → IsUnused s a → IsUnused s b → a ≡ b
  one_idle a b of =
      let there = fit_at is a of.chunk of.held of.of_kind in
      one_without there.0 (subst (λ i. IsFitOf l.config (properties_in l heaps) t i there.0) of.of_type there.1) a b of

pub sound_is : {A M X : Type 0} (l : Limits A) (heaps : List Heap) (ss : List (TypeStores M X)) (t : Table) (remaining : ℕ) → IsConsistent l.sharing l.config (properties_in l heaps) heaps ss t remaining
    → IsSound (state_in l heaps ss t remaining)
sound_is l heaps ss t remaining is = record {
  nonempty = λ span live. (is.books.spans span live).nonempty;
  inside = lies_inside is;
  alone = is_alone is;
  buddy = λ span h live held kind. buddy_size (buddy_at is span.object h held kind).1 held kind span live refl;
  apart = are_apart is;
  used = λ object. each_used is object (map.get t.held object) refl;
  numbers = λ index number a b. one_object l heaps ss t remaining is index number a b;
  numbered = λ index number object. within l heaps ss t remaining is index number object;
  chosen = is.chosen;
  one_unused = λ index a b. one_idle l heaps ss t remaining is index 0 a b;
  fit_sizes = λ index object. fit_sized l heaps ss t remaining is index 0 object;
  next_fit = λ index known. (next_fit l heaps ss t remaining is index 0 known).1;
  fit = λ index span. fit_whole l heaps ss t remaining is index 0 span;
  within = λ heap inside.
      let there : heap < length heaps = omega (arith, inside, length-map heaps offer_of) in
      let own = there_is heaps heap there in
      let of = heap_is l heaps ss t remaining is.books.ledgers heap own.0 there (read_is heaps heap own.0 own.1) in
      omega (arith, of.asked, of.size);
  limits = λ heap inside.
      let there : heap < length heaps = omega (arith, inside, length-map heaps offer_of) in
      let own = there_is heaps heap there in
      let of = heap_is l heaps ss t remaining is.books.ledgers heap own.0 there (read_is heaps heap own.0 own.1) in
      omega (arith, of.limit, of.limited, of.size);
}

pub atoms_kept : {A M X : Type 0} (l : Limits A) (heaps : List Heap) (ss : List (TypeStores M X)) (t : Table) (remaining : ℕ) → IsConsistent l.sharing l.config (properties_in l heaps) heaps ss t remaining
    → KeepsAtoms (state_in l heaps ss t remaining)
atoms_kept l heaps ss t remaining is = record {
  atom = λ index.
      let p = properties_in l heaps in
      power_of_bit (atom_of p index) (atom_power p.non_coherent_atom_size (atom_of p index) (is_non_coherent p index) is.books.usable.atom refl);
  ends = λ index number object. chunk_ends l heaps ss t remaining is index number object;
  begins = λ index number span. span_begins l heaps ss t remaining is index number span;
  next = λ index. next_whole l heaps ss t remaining is index 0;
  next_fit = λ index known. (next_fit l heaps ss t remaining is index 0 known).0;
}
