-- An allocator at first.
use Rattle.std.proofs.Common.{◌≡◌, ℕ, zero, suc, ◌*◌, ◌^◌, ◌<◌, ◌≤◌, List, [], ◌∷◌, ◌++◌, length, get_or, map, Option, Some, None, IfSome, option_map, refl, sym, ◌∙◌, ap, subst, arith}
use Rattle.std.proofs.lemmas.List.{length-map}
use Rattle.std.proofs.lemmas.Option.{slice_get-get_or, slice_get-map}
use Rattle.std.specs.FinMap as finite
use Rattle.std.specs.FinSet as set_of
use Rattle.std.specs.List.{slice_get, sum_by}
use Rattle.std.specs.Ordering.{nat_cmp}
use Rattle.std.specs.Prelude.{max, min}
use Rattle.gpu_alloc_types.specs.Flags.{property_bits}
use Rattle.gpu_alloc_types.specs.Properties.{Properties, IsUsable, heap_size, props_at, atom_of, atom_for, size_of, heap_of, bits_of}
use Rattle.gpu_alloc_types.specs.declared.types.MemoryType.{MemoryType}
use Rattle.gpu_alloc_types.specs.declared.types.MemoryHeap.{MemoryHeap}
use Rattle.gpu_alloc_buddy.specs.Buddy as buddy
use Rattle.gpu_alloc_buddy.specs.BuddySound.{IsSoundBuddy}
use Rattle.gpu_alloc_buddy.specs.BuddyState.{Buddy}
use Rattle.gpu_alloc_freelist.specs.FreeListAllocator as list
use Rattle.gpu_alloc_freelist.specs.FreeListSound.{IsSoundFreeList}
use Rattle.gpu_alloc_freelist.specs.FreeListState.{FreeListState}
use Rattle.gpu_alloc_fit.specs.Fit as fit
use Rattle.gpu_alloc_fit.specs.Fit.{FitState}
use Rattle.gpu_alloc_fit.specs.FitSound.{IsSoundFit}
use Rattle.gpu_alloc_base.specs.FreeSpace.{IsMultipleOf}
use Rattle.gpu_alloc_base.specs.Heap.{unused}
use Rattle.gpu_alloc_base.proofs.Leaves.{leaf_exact, leaf_total}
use Rattle.gpu_alloc_base.proofs.Slots.{slot_exact, slot_total}
use Rattle.gpu_alloc_buddy.specs.BuddyRule.{buddy_rule}
use Rattle.gpu_alloc_fit.specs.FitRule.{fit_rule}
use Rattle.gpu_alloc_freelist.specs.FreeListRule.{list_rule}
use Rattle.gpu_alloc_block.specs.declared.block.Kind.TheVariants.{BuddyChunk, FitChunk, FreeListChunk}
use Rattle.gpu_alloc_base.proofs.ChunkSizes.{cut_whole, starting_fits}
use Rattle.gpu_alloc_base.proofs.Multiples.{multiple_min, multiple_times}
use Rattle.gpu_alloc.specs.FitSharing.{IsFitChunkSize, grain, largest_fit}
use Rattle.gpu_alloc.specs.Inside.{IsBooked, IsKnown, IsLedger, IsLiveIn, AreSmall, types_with}
use Rattle.gpu_alloc.specs.StoresFor.{IsBuddyFor, IsFitFor, IsFitForType, IsForType, IsListFor, IsListForType}
use Rattle.gpu_alloc.specs.Own.{OwnTable}
use Rattle.gpu_alloc.specs.Whole.{whole, IsKept}
use Rattle.gpu_alloc.specs.Stores.{IsChosenFor, AreStoresFor, chosen_part, chosen_sizes, list_part, type_sizes}
use Rattle.gpu_alloc.specs.declared.allocator.stores.Chosen.{Chosen}
use Rattle.gpu_alloc.specs.declared.allocator.stores.Chosen.TheVariants.{Buddy as InBuddies, Fit as InFits}
use Rattle.gpu_alloc.proofs.Wholes.{HoldsNone, apart_unused, no_part, nothing_held, nothing_live, there_at}
use Rattle.gpu_alloc.specs.Opening.{AreFirst, IsFirstStore, first_buddy, first_fitting, first_listing}
use Rattle.gpu_alloc_base.specs.Sizes.{minimal_size, initial_size, starting_size, final_size}
use Rattle.gpu_alloc.specs.FirstTypes.{first_type_state, first_types}
use Rattle.gpu_alloc.specs.Spans.{Table}
use Rattle.gpu_alloc.specs.Budget.{asked_share}
use Rattle.gpu_alloc_block.specs.Parts.{IsAt}
use Rattle.gpu_alloc_block.specs.State.{HeldObject, Span, TypeState, span_cmp, share}
use Rattle.gpu_alloc_base.specs.declared.config.Config.{Config}
use Rattle.gpu_alloc_base.specs.declared.heap.Heap.{Heap}
use Rattle.gpu_alloc_block.specs.declared.sharing.Sharing.{Sharing}
use Rattle.gpu_alloc.proofs.Ledgers.{Entries, Held}
use Rattle.gpu_alloc.specs.declared.allocator.stores.TypeStores.{TypeStores}

-- A memory type's first buddy allocator, its first free list and its first allocator of fit chunks.

-- what the device offers it
pub record IsOffered (p : Properties) (t atom : ℕ) (own : MemoryType) (heap : MemoryHeap) : Type 0 where
  pub size : heap.size ≡ heap_size p t
  pub props : property_bits own.props ≡ props_at p t
  pub atom_is : atom ≡ atom_of p t

pub offered : (p : Properties) → IsUsable p → (t atom : ℕ) (d : MemoryType) (h : MemoryHeap) → t < length p.memory_types → atom ≡ atom_for p (property_bits (get_or p.memory_types t d).props)
    → IsOffered p t atom (get_or p.memory_types t d) (get_or p.memory_heaps (get_or p.memory_types t d).heap h)
offered p usable t atom d h known is =
    let found = slice_get-get_or p.memory_types t d known in
    let in_heap = slice_get-get_or p.memory_heaps (get_or p.memory_types t d).heap h (usable.heap_known t d known) in
    let props : property_bits (get_or p.memory_types t d).props ≡ props_at p t = sym (ap bits_of found) in
    record { size = sym (ap (λ o. size_of (slice_get p.memory_heaps (heap_of o))) found ∙ ap size_of in_heap); props = props; atom_is = is ∙ ap (atom_for p) props }

-- and so what each is at first
module _ (c : Config) (p : Properties) (t atom : ℕ) {own : MemoryType} {heap : MemoryHeap} (of : IsOffered p t atom own heap) where
  pub first_buddy_is : buddy.opened (minimal_size c heap.size) (initial_size c heap.size) t (property_bits own.props) atom ≡ first_buddy c p t
  first_buddy_is = λ k. buddy.opened (minimal_size c (of.size k)) (initial_size c (of.size k)) t (of.props k) (of.atom_is k)

  pub first_listing_is : list.opened (starting_size c heap.size atom) (final_size c heap.size atom) t (property_bits own.props) atom ≡ first_listing c p t
  first_listing_is = λ k. list.opened (starting_size c (of.size k) (of.atom_is k)) (final_size c (of.size k) (of.atom_is k)) t (of.props k) (of.atom_is k)

  pub first_fitting_is : (g : ℕ) → g ≡ grain atom → fit.opened (starting_size c heap.size g) (largest_fit c heap.size g) t (property_bits own.props) g ≡ first_fitting c p t
  first_fitting_is g is =
      let whole : g ≡ grain (atom_of p t) = is ∙ ap grain of.atom_is in
      λ k. fit.opened (starting_size c (of.size k) (whole k)) (largest_fit c (of.size k) (whole k)) t (of.props k) (whole k)

-- Sizes of fit chunks.

-- four times the first one's, cut at the largest number first
pub four_times : (starting final cut result : ℕ) → final < 2 ^ 64 → cut ≡ min (starting * 4) 18446744073709551615 → result ≡ min cut final → result ≡ min (4 * starting) final
four_times starting final cut result bound cut_is result_is = omega (arith, bound, cut_is, result_is)

-- the largest one's is of whole grains
pub largest_whole : (c : Config) (heap g : ℕ) → IsMultipleOf g (largest_fit c heap g)
largest_whole c heap g = multiple_min g (4 * starting_size c heap g) (final_size c heap g) (multiple_times g (starting_size c heap g) 4 (cut_whole heap g c.starting_free_list_chunk)) (cut_whole heap g _)

-- and no less than the first one's
pub starting_within : (c : Config) (heap g : ℕ) → 0 < g → starting_size c heap g ≤ largest_fit c heap g
starting_within c heap g some = let fits = starting_fits c heap g some in omega arith

pub first_sized : (c : Config) (heap g : ℕ) → 0 < g → IsFitChunkSize c heap g (starting_size c heap g)
first_sized c heap g some = let fits = starting_within c heap g some in (0, omega (arith, fits))

-- what holds of each element by its index, with one more
each_more : {X : Type 0} (P : ℕ → X → Type 0) (xs : List X) (x : X) → ((i : ℕ) → IfSome (slice_get xs i) (P i)) → P (length xs) x → (i : ℕ) → IfSome (slice_get (xs ++ x ∷ []) i) (P i)
each_more P [] x each is zero = is
each_more P [] x each is (suc i) = tt
each_more P (y ∷ xs) x each is zero = each zero
each_more P (y ∷ xs) x each is (suc i) = each_more (λ j. P (suc j)) xs x (λ j. each (suc j)) is i

-- Stores at first.

-- what a memory type's heap and properties say of it
module _ (p : Properties) (i : ℕ) (own : MemoryType) (found : slice_get p.memory_types i ≡ Some own) where
  pub size_found : heap_size p i ≡ size_of (slice_get p.memory_heaps own.heap)
  size_found = ap (λ o. size_of (slice_get p.memory_heaps (heap_of o))) found

  pub atom_found : atom_of p i ≡ atom_for p (property_bits own.props)
  atom_found = ap (λ o. atom_for p (bits_of o)) found

module _ {M X : Type 0} (sharing : Sharing) (c : Config) (p : Properties) where
  -- a memory type's
  abbrev IsFirstEach : ℕ → TypeStores M X → Type 0
  IsFirstEach t e = IsFirstStore sharing c p t e.chosen × ((e.free_list ≡ first_listing c p t) × IsSoundFreeList e.free_list)

  pub one_first_more : (ss : List (TypeStores M X)) (t : ℕ) (e : TypeStores M X) → AreFirst sharing c p ss → length ss ≡ t → IsFirstStore sharing c p t e.chosen → e.free_list ≡ first_listing c p t → IsSoundFreeList e.free_list → AreFirst sharing c p (ss ++ e ∷ [])
  one_first_more ss t e are count first is sound = each_more IsFirstEach ss e are (subst (λ i. IsFirstEach i e) (sym count) (first, (is, sound)))

  -- none has a chunk or a block

  chosen_unused : (t : ℕ) (x : Chosen M X) → IsFirstStore sharing c p t x → HoldsNone (chosen_part x)
  chosen_unused t (InBuddies b) is = no_part buddy_rule leaf_total leaf_exact (λ key. BuddyChunk) b (ap (λ (x : Buddy). x.chunks) is.1.0) (ap (λ (x : Buddy). x.live) is.1.0)
  chosen_unused t (InFits f) is = no_part fit_rule slot_total slot_exact (λ key. FitChunk) f (ap (λ (x : FitState). x.space.chunks) is.1.0) (ap (λ (x : FitState). x.space.live) is.1.0)

  pub first_unused : (ss : List (TypeStores M X)) → AreFirst sharing c p ss → (i : ℕ) (e : TypeStores M X) → IsAt ss i e → HoldsNone (chosen_part e.chosen) × HoldsNone (list_part e.free_list)
  first_unused ss are i e at =
      let is = subst (λ (o : Option (TypeStores M X)). IfSome o (IsFirstEach i)) (there_at ss i e at) (are i) in
      (chosen_unused i e.chosen is.0, no_part list_rule slot_total slot_exact FreeListChunk e.free_list (ap (λ (x : FreeListState). x.space.chunks) is.1.0) (ap (λ (x : FreeListState). x.space.live) is.1.0))

  -- the chunk sizes and the numbers are the first ones

  types_kept : (types : List TypeState) (ss : List (TypeStores M X)) → length types ≤ length ss → ((i : ℕ) → IfSome (slice_get types i) (λ t. IfSome (slice_get ss i) (λ e. type_sizes e t ≡ t))) → types_with type_sizes types ss ≡ types
  types_kept [] ss le same = refl
  types_kept (t ∷ types) [] le same = absurd (omega arith)
  types_kept (t ∷ types) (e ∷ ss) le same = λ k. same zero k ∷ types_kept types ss (omega arith) (λ i. same (suc i)) k

  module _ (i : ℕ) (own : MemoryType) (found : slice_get p.memory_types i ≡ Some own) where
    chosen_kept : (x : Chosen M X) → IsFirstStore sharing c p i x → chosen_sizes x (first_type_state c p own) ≡ first_type_state c p own
    chosen_kept (InBuddies b) is =
        let next = ap (λ (x : Buddy). x.next_chunk) is.1.0 ∙ ap (λ n. max (initial_size c n) (minimal_size c n)) (size_found p i own found) in
        λ k. record (first_type_state c p own) { next_chunk = next k }
    chosen_kept (InFits f) is =
        let next = ap (λ (x : FitState). x.next_chunk) is.1.0 ∙ (λ k. starting_size c (size_found p i own found k) (grain (atom_found p i own found k))) in
        λ k. record (first_type_state c p own) { fit_chunk = next k }

    type_kept : (o : Option (TypeStores M X)) → IfSome o (IsFirstEach i) → IfSome o (λ e. type_sizes e (first_type_state c p own) ≡ first_type_state c p own)
    type_kept None is = tt
    type_kept (Some e) is =
        let next = ap (λ (x : FreeListState). x.next_chunk) is.1.0 ∙ (λ k. starting_size c (size_found p i own found k) (atom_found p i own found k)) in
        let latest = ap (λ (x : FreeListState). x.space.latest) is.1.0 in
        (λ k. chosen_sizes e.chosen (record (first_type_state c p own) { list_chunk = next k; number = latest k })) ∙ chosen_kept e.chosen is.0

  pub first_types_kept : (ss : List (TypeStores M X)) → length ss ≡ length p.memory_types → AreFirst sharing c p ss → types_with type_sizes (first_types c p) ss ≡ first_types c p
  first_types_kept ss count are =
      types_kept (first_types c p) ss (omega (arith, count, length-map p.memory_types (first_type_state c p)))
      (λ i. subst (λ o. IfSome o (λ t. IfSome (slice_get ss i) (λ e. type_sizes e t ≡ t))) (sym (slice_get-map (first_type_state c p) p.memory_types i)) (of_type i (slice_get p.memory_types i) refl))
    where
      of_type : (i : ℕ) (o : Option MemoryType) → slice_get p.memory_types i ≡ o → IfSome (option_map (first_type_state c p) o) (λ t. IfSome (slice_get ss i) (λ e. type_sizes e t ≡ t))
      of_type i None found = tt
      of_type i (Some own) found = type_kept i own found (slice_get ss i) (are i)

-- The table, the heaps and the stores, with nothing held.

-- nothing is counted
nothing : {X : Type 0} (f : X → ℕ) (xs : List X) → length xs ≡ 0 → sum_by f xs ≡ 0
nothing f [] none = refl
nothing f (x ∷ xs) none = absurd (omega arith)

nothing_large : (es : Entries) → length es ≡ 0 → AreSmall es
nothing_large [] none = tt
nothing_large (e ∷ es) none = absurd (omega arith)

module _ (t : Table) (unheld : t.held ≡ finite.empty) (unused_spans : t.live ≡ set_of.empty) where
  -- no object is held, and no span is live
  no_object : (object : ℕ) → finite.get t.held object ≡ None
  no_object object = ap (λ (m : Held). finite.get m object) unheld ∙ finite.get-empty nat_cmp object

  no_span : (span : Span) → IsLiveIn t span → ⊥
  no_span span is = let never = ap (λ s. set_of.contains s span) unused_spans ∙ set_of.contains-empty span_cmp span in cc

  booked-opened : (p : Properties) (heaps : List Heap) (remaining : ℕ) → IsUsable p → remaining < 2 ^ 32 → heaps ≡ map (λ h. unused h.size) p.memory_heaps → IsBooked p heaps t remaining
  booked-opened p heaps remaining usable few unused_heaps = record {
    usable = usable;
    count = omega (arith, none);
    known = λ object. subst (λ (o : Option HeldObject). IfSome o (IsKnown t p object)) (sym (no_object object)) tt;
    spans = λ span now. absurd (no_span span now);
    small = nothing_large (finite.entries t.held) empty;
    ledgers = λ q. subst (λ (o : Option Heap). IfSome o (IsLedger p q (finite.entries t.held)))
        (sym (ap (λ (hs : List Heap). slice_get hs q) unused_heaps ∙ slice_get-map (λ h. unused h.size) p.memory_heaps q)) (at q (slice_get p.memory_heaps q));
  }
    where
      none : finite.len t.held ≡ 0
      none = ap (λ (m : Held). finite.len m) unheld ∙ finite.len-empty nat_cmp HeldObject

      empty : length (finite.entries t.held) ≡ 0
      empty = sym (finite.len-entries t.held) ∙ none

      at : (q : ℕ) (o : Option MemoryHeap) → IfSome (option_map (λ h. unused h.size) o) (IsLedger p q (finite.entries t.held))
      at q None = tt
      at q (Some h) = record { used = sym (nothing (share p q) (finite.entries t.held) empty); within = omega (arith, nothing (asked_share p q) (finite.entries t.held) empty); limited = omega arith }

-- a memory type's first ones are for it

buddy_for : (c : Config) (p : Properties) (i : ℕ) (b : Buddy) → b ≡ first_buddy c p i → IsSoundBuddy b → IsBuddyFor c p i b
buddy_for c p i b is sound = record { for_type = subst (IsForType c p i) (sym is) (record { memory_type = refl; props = refl; atom = refl; minimal = refl }); sound = sound }

list_for : (c : Config) (p : Properties) (i : ℕ) (l : FreeListState) → l ≡ first_listing c p i → IsSoundFreeList l → IsListFor c p i l
list_for c p i l is sound = record { for_type = subst (IsListForType c p i) (sym is) (record { memory_type = refl; props = refl; atom = refl; final_chunk = refl }); sound = sound }

fit_for : (c : Config) (p : Properties) (i : ℕ) (f : FitState) → f ≡ first_fitting c p i → IsSoundFit f → IsFitFor c p i f
fit_for c p i f is sound = record {
  for_type = subst (IsFitForType c p i) (sym is) (record { memory_type = refl; props = refl; atom = refl; final_chunk = refl });
  sized = record {
    next = subst (IsFitChunkSize c (heap_size p i) (grain (atom_of p i))) (sym (ap (λ (x : FitState). x.next_chunk) is)) (first_sized c (heap_size p i) (grain (atom_of p i)) (omega arith));
    chunks = λ key chunk held. absurd (
        let none = ap (λ (x : FitState). finite.get x.space.chunks key) is ∙ finite.get-empty nat_cmp key in
        let never : None ≡ Some chunk = sym none ∙ held in
        cc);
  };
  sound = sound;
}

pub kept-opened : {M X : Type 0} (sharing : Sharing) (c : Config) (p : Properties) (heaps : List Heap) (own : OwnTable) (ss : List (TypeStores M X)) (remaining : ℕ) → own.held ≡ finite.empty → own.live ≡ set_of.empty → IsUsable p → remaining < 2 ^ 32
    → heaps ≡ map (λ h. unused h.size) p.memory_heaps → length ss ≡ length p.memory_types → AreFirst sharing c p ss → IsKept sharing c p heaps ss own remaining
kept-opened {M} {X} sharing c p heaps own ss remaining held live usable few unused_heaps count are =
    let none = first_unused sharing c p ss are in
    let none_held : (whole own ss).held ≡ finite.empty = nothing_held own ss held live none in
    let none_live : (whole own ss).live ≡ set_of.empty = nothing_live own ss held live none in
    record {
      books = booked-opened (whole own ss) none_held none_live p heaps remaining usable few unused_heaps;
      shared = record { count = count; each = λ i. each i (slice_get ss i) (are i) };
      chosen = λ object h at. absurd (let none = no_object (whole own ss) none_held none_live object in cc);
      apart = apart_unused own ss held live none;
    }
  where
    chosen_for : (i : ℕ) (x : Chosen M X) → IsFirstStore sharing c p i x → IsChosenFor c p sharing i x
    chosen_for i (InBuddies b) is = (is.0, buddy_for c p i b is.1.0 is.1.1)
    chosen_for i (InFits f) is = (is.0, fit_for c p i f is.1.0 is.1.1)

    each : (i : ℕ) (o : Option (TypeStores M X)) → IfSome o (IsFirstEach sharing c p i) → IfSome o (AreStoresFor c p sharing i)
    each i None is = tt
    each i (Some e) is = record { chosen = chosen_for i e.chosen is.0; free_list = list_for c p i e.free_list is.1.0 is.1.1 }
