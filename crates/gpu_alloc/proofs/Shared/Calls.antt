-- A memory type's store and its heap, as a call is handed them, and what its answer comes to in the allocator's fields and in
-- its state.
use Rattle.std.proofs.Common.{◌≡◌, ◌≢◌, ◌⊎◌, inl, inr, ℕ, Bool, ◌+◌, ◌-◌, ◌<◌, true, List, [], ◌∷◌, length, get_or, map as list_map, Option, Some, None, Ok, Err, IfSome, slice_get, refl, sym, ◌∙◌, ap, subst, arith, set-set}
use Rattle.std.specs.Prelude.{◌&&◌}
use Rattle.std.proofs.Math.ListN.{set}
use Rattle.std.proofs.lemmas.List.{length-map, length-set, set-get_or}
use Rattle.std.specs.FinMap as map
use Rattle.std.specs.FinSet as set_of
use Rattle.gpu_alloc_types.specs.Device.{Event, Object, put as put_object}
use Rattle.gpu_alloc_types.specs.Flags.{has_bit}
use Rattle.gpu_alloc_types.specs.Properties.{Properties, heap_at, is_host_visible}
use Rattle.gpu_alloc_base.specs.Accounts.{Account, HeldChunks, IsCounted, account}
use Rattle.gpu_alloc_base.specs.Case.{Answers, Case, Decides, GivesInNewObject, GivesInPlace}
use Rattle.gpu_alloc_base.specs.Chunks.{Chunk}
use Rattle.gpu_alloc_base.specs.NewChunk.{made}
use Rattle.gpu_alloc_base.specs.declared.config.Config.{Config}
use Rattle.gpu_alloc_base.specs.declared.error.AllocationError.{AllocationError}
use Rattle.gpu_alloc_base.specs.declared.heap.Heap.{Heap}
use Rattle.gpu_alloc_base.proofs.Books.{made_new, refused_keeps}
use Rattle.gpu_alloc_base.proofs.ListSets.{in_inserted}
use Rattle.gpu_alloc_base.proofs.Maps.{one_value, own_inserted}
use Rattle.gpu_alloc_base.proofs.Names.{removed-cases}
use Rattle.gpu_alloc_base.proofs.ToldTwice.{IsToldAs, asks_is, refused_is}
use Rattle.gpu_alloc_block.specs.Agreement as agreement
use Rattle.gpu_alloc_block.specs.Parts.{Held, IsAt, Live, Makes}
use Rattle.gpu_alloc_block.specs.declared.sharing.Sharing.{Sharing}
use Rattle.gpu_alloc_block.specs.State.{Block, HeldObject, IsOwned, Span, State, TypeState, granted_block, span_of}
use Rattle.gpu_alloc_shared.specs.Rule.{IsLive, Rule}
use Rattle.gpu_alloc_shared.specs.Shared as shared
use Rattle.gpu_alloc_shared.specs.Shared.{Agrees, ObjectsAfter, ReleasesChunk, ReleasesNext, ask_case, sees_chunks, with_block, without_block, without_chunk}
use Rattle.gpu_alloc.specs.Allocation.{ObjectsWith}
use Rattle.gpu_alloc.specs.BuddySharing.{with_span}
use Rattle.gpu_alloc.specs.FirstTypes.{first_type_state, first_types}
use Rattle.gpu_alloc.specs.Inside.{IsBooked, IsChosen, limit_of, properties_in, state_in, types_with}
use Rattle.gpu_alloc.specs.Own.{OwnTable}
use Rattle.gpu_alloc.specs.Release.{Frees, ObjectsFreed, ReleasedWith, Releases, without_all, without_objects, without_span}
use Rattle.gpu_alloc.specs.Sound.{is_chosen}
use Rattle.gpu_alloc.specs.Stores.{AreStores, AreStoresFor, block_span, type_sizes}
use Rattle.gpu_alloc.specs.Whole.{IsKept, IsPartFor, parts_of, whole}
use Rattle.gpu_alloc.specs.declared.allocator.stores.TypeStores.{TypeStores}
use Rattle.gpu_alloc.specs.declared.limits.Limits.{Limits}
use Rattle.gpu_alloc.proofs.Agreeing.{agrees_returned, agrees_without_span, not_held}
use Rattle.gpu_alloc.proofs.Consistency.{booked-held, booked-release, booked-span, booked-span_gone, chosen_less, chosen_more, chosen_same, heap_there, known_object}
use Rattle.gpu_alloc.proofs.HeapLists.{each_set, limits_kept, properties_kept, type_heap_is}
use Rattle.gpu_alloc.proofs.NewObjects.{counted_new}
use Rattle.gpu_alloc.proofs.Shared.Stores.{AreAsked, IsLinked, IsNamed, IsPlain, IsRequest, Named, Serves, block_at, case_at, in_all, put, row, table_of, Stands, block_comes, block_goes, chunk_comes, chunk_goes, linked, plain_of, plain_without, stands_now, told, unused_is}
use Rattle.gpu_alloc.proofs.Shared.Stores as serving
use Rattle.gpu_alloc.proofs.Shared.Types.{changed, read_changed, types_set, types_within}
use Rattle.gpu_alloc.proofs.Wholes.{at_read, read_is, there_at}

abbrev pub state_of : {M X : Type 0} → Limits X → List Heap → List (TypeStores M X) → OwnTable → ℕ → State
state_of l heaps ss own remaining = state_in l heaps ss (whole own ss) remaining

abbrev pub Keep : {M X : Type 0} → Limits X → List Heap → List (TypeStores M X) → OwnTable → ℕ → Type 0
Keep l heaps ss own remaining = IsKept l.sharing l.config (properties_in l heaps) heaps ss own remaining

-- fields that keep what they have to, and stand for this state
abbrev pub StandFor : {M X : Type 0} → Limits X → List Heap → List (TypeStores M X) → OwnTable → ℕ → State → Type 0
StandFor l heaps ss own remaining s = Keep l heaps ss own remaining × (state_of l heaps ss own remaining ≡ s)

-- a list with its own element put in its place
pub same_set : {X : Type 0} (xs : List X) (i : ℕ) (x : X) → x ≡ get_or xs i x → set xs i x ≡ xs
same_set xs i x at = ap (set xs i) at ∙ set-get_or xs i x

module _ {T A B : Type 0} {r : Rule T A B} (n : Named r) {M X : Type 0} (l : Limits X) (heaps : List Heap) (ss : List (TypeStores M X)) (own : OwnTable) (remaining i : ℕ) where
  pub record Has (e : TypeStores M X) (x : T) : Type 0 where
    pub kept : Keep l heaps ss own remaining
    pub known : i < length (properties_in l heaps).memory_types
    pub at : e ≡ get_or ss i e
    pub is : n.get e ≡ Some x

  -- and its heap
  pub record Handed (j : ℕ) (e : TypeStores M X) (x : T) (heap : Heap) : Type 0 where
    pub has : Has e x
    pub here : j ≡ heap_at (properties_in l heaps) i
    pub at_heap : heap ≡ get_or heaps j heap

  -- all that is kept but what holds of a store only between calls
  pub record Stood (e : TypeStores M X) (x : T) : Type 0 where
    pub stands : Stands n own ss i e x
    pub of : n.IsOf l.config (properties_in l heaps) i x
    pub books : IsBooked (properties_in l heaps) heaps (whole own ss) remaining
    pub chosen : IsChosen l.sharing (whole own ss)

pub handed : {T A B : Type 0} {r : Rule T A B} (n : Named r) {M X : Type 0} (l : Limits X) {heaps : List Heap} {ss : List (TypeStores M X)} {own : OwnTable} {remaining i j : ℕ} {e : TypeStores M X} {x : T} {heap : Heap} → Keep l heaps ss own remaining → i < length (properties_in l heaps).memory_types
    → e ≡ get_or ss i e → n.get e ≡ Some x → j ≡ heap_at (properties_in l heaps) i → heap ≡ get_or heaps j heap → Handed n l heaps ss own remaining i j e x heap
handed n l kept known at is here at_heap = record { has = record { kept = kept; known = known; at = at; is = is }; here = here; at_heap = at_heap }

-- a live block's memory type is known
pub known_type : {M X : Type 0} (l : Limits X) {heaps : List Heap} {ss : List (TypeStores M X)} {own : OwnTable} {remaining i : ℕ} {block : Block} → Keep l heaps ss own remaining → IsOwned (state_of l heaps ss own remaining) block → i ≡ block.memory_type → i < length (properties_in l heaps).memory_types
known_type l {heaps} {ss} {own} {remaining} {block = block} kept owned typed =
    omega (arith, typed, owned.held.2, (known_object (properties_in l heaps) heaps (whole own ss) remaining kept.books refl block.object owned.held.0 owned.held.1).of_type)

-- so its store is handed
pub handed_owned : {T A B : Type 0} {r : Rule T A B} (n : Named r) {M X : Type 0} (l : Limits X) {heaps : List Heap} {ss : List (TypeStores M X)} {own : OwnTable} {remaining i j : ℕ} {e : TypeStores M X} {x : T} {heap : Heap} {block : Block} → Keep l heaps ss own remaining → IsOwned (state_of l heaps ss own remaining) block → i ≡ block.memory_type
    → e ≡ get_or ss i e → n.get e ≡ Some x → j ≡ heap_at (properties_in l heaps) i → heap ≡ get_or heaps j heap → Handed n l heaps ss own remaining i j e x heap
handed_owned n l kept owned typed at is here at_heap = handed n l kept (known_type l kept owned typed) at is here at_heap

module _ {T A B : Type 0} {r : Rule T A B} {n : Named r} (named : IsNamed n) {M X : Type 0} (ss : List (TypeStores M X)) (i : ℕ) (e : TypeStores M X) (x : T) (at : IsAt ss i e) (is : n.get e ≡ Some x) where
  -- put in its own place it changes nothing
  pub put_same : put n ss i e x ≡ ss
  put_same = ap (set ss i) (named.same e x is) ∙ same_set ss i e (read_is ss i e (there_at ss i e at))

  -- its memory type's sizes, with another one in its place
  pub types_put : (types : List TypeState) (y : T) → types_with type_sizes types (put n ss i e y) ≡ changed (n.sizes y) (types_with type_sizes types ss) i
  types_put types y = types_set type_sizes (n.sizes y) types ss i e (n.put e y) at (λ type. named.types_put e x y type is)

  -- they are its own
  types_own : (types : List TypeState) → types_with type_sizes types ss ≡ changed (n.sizes x) (types_with type_sizes types ss) i
  types_own types = ap (types_with type_sizes types) (sym put_same) ∙ types_put types x

  -- and stay so
  pub types_kept : (types : List TypeState) (chunks : HeldChunks) (live : set_of.FinSet r.order) → types_with type_sizes types (put n ss i e (r.with_space x chunks live)) ≡ types_with type_sizes types ss
  types_kept types chunks live = types_put types (r.with_space x chunks live) ∙ ap (λ h. changed h (types_with type_sizes types ss) i) (named.sizes_kept x chunks live) ∙ sym (types_own types)

  -- what is read of them is its own
  pub sizes_read : (types : List TypeState) → i < length (types_with type_sizes types ss) → (read : Option TypeState → ℕ) (m : ℕ) → ((type : TypeState) → read (Some (n.sizes x type)) ≡ m) → read (slice_get (types_with type_sizes types ss) i) ≡ m
  sizes_read types inside read m is = ap (λ ts. read (slice_get ts i)) (types_own types) ∙ read_changed read (n.sizes x) _ i m inside is

  module _ (c : Config) (p : Properties) (sharing : Sharing) (are : AreStores c p sharing ss) where
    each_is : AreStoresFor c p sharing i e
    each_is = subst (λ (o : Option (TypeStores M X)). IfSome o (AreStoresFor c p sharing i)) (there_at ss i e at) (are.each i)

    pub for_type : n.IsFor c p i x
    for_type = named.each c p sharing i e x each_is is

    pub are_set : (y : T) → n.IsOf c p i y → r.IsSound y → AreStores c p sharing (put n ss i e y)
    are_set y of sound = record {
      count = length-set ss i (n.put e y) ∙ are.count;
      each = each_set (AreStoresFor c p sharing) ss i (n.put e y) (named.each_put c p sharing i e x y each_is is (named.for_of c p i y of sound)) (λ q other. are.each q);
    }

-- With stores that are as they have to be, all is kept.
pub keep : {T A B : Type 0} {r : Rule T A B} {n : Named r} {M X : Type 0} (l : Limits X) {heaps : List Heap} {ss : List (TypeStores M X)} {own : OwnTable} {remaining i : ℕ} {e : TypeStores M X} {x : T} → Stood n l heaps ss own remaining i e x → AreStores l.config (properties_in l heaps) l.sharing ss → Keep l heaps ss own remaining
keep l st are = record { books = st.books; shared = are; chosen = st.chosen; apart = st.stands.apart }

module _ {T A B : Type 0} {r : Rule T A B} {n : Named r} (named : IsNamed n) {M X : Type 0} {l : Limits X} {heaps : List Heap} {ss : List (TypeStores M X)} {own : OwnTable} {remaining i : ℕ} {e : TypeStores M X} {x : T} where
  module _ (st : Stood n l heaps ss own remaining i e x) where
    abbrev p : Properties
    p = properties_in l heaps

    abbrev s : State
    s = state_of l heaps ss own remaining

    -- Another one is put in its place, and the parts make this.
    step : (y : T) → r.served y ≡ r.served x → {now : List Heap} → properties_in l now ≡ p → list_map limit_of now ≡ list_map limit_of heaps → {count : ℕ} {held : Held} {live : Live} → Makes IsPartFor (parts_of own (put n ss i e y)) held live → IsPlain n y → n.IsOf l.config p i y → IsBooked p now (whole own (put n ss i e y)) count
        → IsChosen l.sharing (whole own (put n ss i e y)) → Stood n l now (put n ss i e y) own count i (n.put e y) y
        × (state_of l now (put n ss i e y) own count ≡ record s { held = held; live = live; remaining = count; types = types_with type_sizes (first_types l.config p) (put n ss i e y) })
    step y same {now} offers limits {count} came plain of books chosen = (
      record {
        stands = stands_now named st.stands y same came.apart plain;
        of = subst (λ q. n.IsOf l.config q i y) (sym offers) of;
        books = subst (λ q. IsBooked q now (whole own (put n ss i e y)) count) (sym offers) books;
        chosen = chosen;
      },
      λ k. record s { held = came.held_is k; live = came.live_is k; remaining = count; heap_limits = limits k; types = types_with type_sizes (first_types l.config (offers k)) (put n ss i e y); properties = offers k },
    )

    -- A block goes.
    pub without : (b : B) → IsLive r x b → Stood n l heaps (put n ss i e (without_block r x b)) own remaining i (n.put e (without_block r x b)) (without_block r x b)
        × (state_of l heaps (put n ss i e (without_block r x b)) own remaining ≡ record s { live = set_of.remove s.live (block_span r b) })
    without b was =
        let y = without_block r x b in
        let same = named.lawful.its_type x (r.chunks x) (set_of.remove (r.live x) b) in
        let made = block_goes named st.stands y same b was (named.lawful.its_chunks x _ _) (named.lawful.its_live x _ _) in
        let lies = st.stands.plain.of_chunk b was in
        let found = ap (map.get s.held) lies.1.1 ∙ (linked named st.stands).chunks (r.key b) lies.0 lies.1.0 in
        let then = step y same {now = heaps} refl refl made (plain_without named x b st.stands.plain) (named.of_less l.config p i x (r.chunks x) _ st.of (λ key c held. held))
        (booked-span_gone p heaps (whole own ss) remaining st.books refl (whole own (put n ss i e y)) (row n x (r.key b) lies.0) (block_span r b) found (named.shared (r.key b)) made.held_is made.live_is)
        (chosen_same l.sharing (whole own ss) (whole own (put n ss i e y)) st.chosen made.held_is) in
        (then.0, then.1 ∙ (λ k. record s { live = set_of.remove s.live (block_span r b); types = types_kept named ss i e x (in_all named st.stands) st.stands.is (first_types l.config p) (r.chunks x) (set_of.remove (r.live x) b) k }))

    -- A chunk goes in which no block is live.
    pub released : (j : ℕ) (heap : Heap) → j ≡ heap_at p i → heap ≡ get_or heaps j heap → (key : ℕ) (c : Chunk) → map.get (r.chunks x) key ≡ Some c → ((b : B) → IsLive r x b → r.key b ≢ key) → IsPlain n (without_chunk r x key)
        → Stood n l (set heaps j (record heap { used = heap.used - c.size })) (put n ss i e (without_chunk r x key)) own (remaining + 1) i (n.put e (without_chunk r x key)) (without_chunk r x key)
        × (state_of l (set heaps j (record heap { used = heap.used - c.size })) (put n ss i e (without_chunk r x key)) own (remaining + 1) ≡ record s { held = map.remove s.held c.object; remaining = remaining + 1 })
    released j heap here at_heap key c found unused plain =
        let y = without_chunk r x key in
        let same = named.lawful.its_type x (map.remove (r.chunks x) key) (r.live x) in
        let changed_heap = record heap { used = heap.used - c.size } in
        let made = chunk_goes named st.stands y same key c found unused (named.lawful.its_chunks x _ _) (named.lawful.its_live x _ _) in
        let both = linked named st.stands in
        let then = step y same (properties_kept l heaps j changed_heap heap at_heap refl) (limits_kept heaps j changed_heap heap at_heap refl) made plain (named.of_less l.config p i x _ (r.live x) st.of (λ k d held. (removed-cases (r.chunks x) key k d held).1))
        (booked-release p heaps (whole own ss) remaining st.books refl (whole own (put n ss i e y)) (row n x key c) c.object (record { found = both.chunks key c found; unused = unused_is s x both st.stands.plain key c found unused; held = made.held_is; live = made.live_is })
        heap changed_heap j (here ∙ ap (heap_at p) (sym st.stands.of_type)) at_heap refl)
        (chosen_less l.sharing (whole own ss) (whole own (put n ss i e y)) c.object st.chosen made.held_is) in
        (then.0, then.1 ∙ (λ k. record s { held = map.remove s.held c.object; remaining = remaining + 1; types = types_kept named ss i e x (in_all named st.stands) st.stands.is (first_types l.config p) (map.remove (r.chunks x) key) (r.live x) k }))

  module _ (has : Has n l heaps ss own remaining i e x) where
    in_range : i < length ss
    in_range = omega (arith, has.known, has.kept.shared.count)

    pub is_at : IsAt ss i e
    is_at = at_read ss i e in_range has.at

    pub its : n.IsOf l.config (properties_in l heaps) i x × r.IsSound x
    its = named.for_is l.config (properties_in l heaps) i x (for_type named ss i e x is_at has.is l.config (properties_in l heaps) l.sharing has.kept.shared)

    pub stood : Stood n l heaps ss own remaining i e x
    stood = record {
      stands = record { apart = has.kept.apart; at = has.at; inside = in_range; is = has.is; of_type = (named.of_type l.config (properties_in l heaps) i x its.0).0; plain = plain_of named x its.1 };
      of = its.0;
      books = has.kept.books;
      chosen = has.kept.chosen;
    }

    in_types : i < length (types_with type_sizes (first_types l.config (properties_in l heaps)) ss)
    in_types = types_within type_sizes (first_types l.config (properties_in l heaps)) ss i (omega (arith, has.known, length-map (properties_in l heaps).memory_types (first_type_state l.config (properties_in l heaps)))) in_range

    pub serves : Serves n (state_of l heaps ss own remaining) i x
    serves = record {
      linked = linked named stood.stands;
      of = its.0;
      sound = its.1;
      next = sizes_read named ss i e x is_at has.is (first_types l.config (properties_in l heaps)) in_types;
    }

module _ {T A B : Type 0} {r : Rule T A B} {n : Named r} {M X : Type 0} {l : Limits X} {heaps : List Heap} {ss : List (TypeStores M X)} {own : OwnTable} {remaining i j : ℕ} {e : TypeStores M X} {x : T} {heap : Heap} (h : Handed n l heaps ss own remaining i j e x heap) where
  abbrev pub before : State
  before = state_of l heaps ss own remaining

  -- The fields with this store, heap and count.

  abbrev pub With : Account T → State → Type 0
  With a s = StandFor l (set heaps j a.heap) (put n ss i e a.allocator) own a.remaining s

  abbrev pub state_with : Account T → State
  state_with a = state_of l (set heaps j a.heap) (put n ss i e a.allocator) own a.remaining

  -- what is left of a block that was granted
  pub record IsServed (d : Case Block State) (es : List Event) (b : B) (old new : ℕ → Option Object) (a : Account T) : Type 0 where
    pub kept : Keep l (set heaps j a.heap) (put n ss i e a.allocator) own a.remaining
    pub gives : Decides d es (Ok (block_at n before i b)) (state_with a)
    pub objects_are : ObjectsWith before (block_at n before i b) (state_with a) old new

  -- from this state these objects went
  pub record IsLeft (s : State) (names : List ℕ) (after : Account T) (es : List Event) (q : Properties) (old new : ℕ → Option Object) : Type 0 where
    pub kept : Keep l (set heaps j after.heap) (put n ss i e after.allocator) own after.remaining
    pub lets : Releases s names es (state_with after)
    pub objects : new ≡ without_objects old names
    pub agreed : agreement.Agrees (state_with after) q new

  -- what the return of a block leaves
  pub record IsReturned (block : Block) (after : Account T) (es : List Event) (q : Properties) (old new : ℕ → Option Object) : Type 0 where
    pub kept : Keep l (set heaps j after.heap) (put n ss i e after.allocator) own after.remaining
    pub frees : Frees before block es (state_with after)
    pub freed : ObjectsFreed before block old new
    pub agreed : agreement.Agrees (state_with after) q new

module _ {T A B : Type 0} {r : Rule T A B} (n : Named r) where
  -- the next chunk is gone, if there is one
  abbrev pub IsNextGone : T → Bool → List ℕ → Type 0
  IsNextGone x keep_last names =
      ((names ≡ []) × ((key : ℕ) → r.IsNext x keep_last key → ⊥))
      ⊎ ((key : ℕ) × r.IsNext x keep_last key × (c : Chunk) × (map.get (r.chunks x) key ≡ Some c) × (names ≡ c.object ∷ []))

  -- the whole allocator's block is a live one of the store
  pub record IsBlockOf (x : T) (b : B) (block : Block) : Type 0 where
    pub live : IsLive r x b
    pub span : ◌≡◌ {A = Span} (span_of block) (block_span r b)
    pub kind : block.kind ≡ n.kind (r.key b)

  -- the store releases a block's chunk with it or not at all, in a state where its span is no longer live
  pub record ReleasesAtOnce (x : T) (b : B) (s : State) (c : Chunk) : Type 0 where
    pub goes : r.ReleasedWith x b → ((q : B) → IsLive r (without_block r x b) q → r.key q ≢ r.key b) × ReleasedWith (n.kind (r.key b)) s c.object (c.object ∷ [])
    pub stays : (r.ReleasedWith x b → ⊥) → ReleasedWith (n.kind (r.key b)) s c.object []

module _ {T A B : Type 0} {r : Rule T A B} {n : Named r} (named : IsNamed n) {M X : Type 0} {l : Limits X} {heaps : List Heap} {ss : List (TypeStores M X)} {own : OwnTable} {remaining i j : ℕ} {e : TypeStores M X} {x : T} {heap : Heap} (h : Handed n l heaps ss own remaining i j e x heap) where
  abbrev offered : Properties
  offered = properties_in l heaps

  abbrev t : State
  t = before h

  pub heap_inside : j < length heaps
  heap_inside = omega (arith, h.here, heap_there offered heaps (whole own ss) remaining h.has.kept.books refl i h.has.known)

  -- What the store asks.

  pub agrees_before : (q : Properties) (objects : ℕ → Option Object) → agreement.Agrees t q objects → Agrees r x q objects
  agrees_before q objects agrees = serving.agrees named t i x (serves named h.has) q objects h.has.known agrees

  pub counted_before : IsCounted (r.chunks x) heap remaining
  counted_before = serving.counted named t i x (serves named h.has) heaps j heap h.has.kept.books h.here heap_inside h.at_heap

  -- with a store that keeps its chunks
  with_kept : (y : T) (s : State) → StandFor l heaps (put n ss i e y) own remaining s → With h (account y heap remaining) s
  with_kept y s fields = subst (λ hs. StandFor l hs (put n ss i e y) own remaining s) (sym (same_set heaps j heap h.at_heap)) fields

  pub unchanged : With h (account x heap remaining) t
  unchanged = with_kept x t (subst (λ rest. StandFor l heaps rest own remaining t) (sym (put_same named ss i e x (is_at named h.has) h.has.is)) (h.has.kept, refl))

  -- A request.

  module _ (asked : AreAsked n) {c : Case B (Account T)} {d : Case Block State} (q : IsRequest n t i x heap remaining c d) (es : List Event) (after : Account T) where
    abbrev own_case : Case B (Account T)
    own_case = ask_case r (account x heap remaining) q.ask q.flags

    both_tell : IsToldAs own_case (case_at n t i q.ask)
    both_tell = told named t i x (serves named h.has) asked heap q.ask q.flags q.some (type_heap_is l heaps ss (whole own ss) remaining h.has.kept.books i j heap h.has.known h.here h.at_heap) q.flags_are

    -- a refusal
    pub refused : (e : AllocationError) → Answers c es (Err e) after → With h after t × Answers d es (Err e) t
    refused e refusal =
        let answers = subst (λ (z : Case B (Account T)). Answers z es (Err e) after) q.to_store refusal in
        (subst (λ a. With h a t) (sym (refused_keeps own_case es e after answers)) unchanged, subst (λ (z : Case Block State). Answers z es (Err e) t) (sym q.by_name) (refused_is both_tell es e after answers))

    -- A block.

    module _ (b : B) (props : Properties) (old new : ℕ → Option Object) (choice : is_chosen l.sharing (n.kind (r.key b)) ≡ true) (agrees : agreement.Agrees t props old)
        (answers : Answers c es (Ok b) after) (objects : ObjectsAfter r x (Ok b) after.allocator old new) (sound : r.IsSound after.allocator) where
      new_live : (y : T) → r.live y ≡ set_of.insert (r.live x) b → IsLive r y b
      new_live y live = subst (λ rows. set_of.contains rows b ≡ true) (sym live) ((in_inserted r.order named.total named.exact (r.live x) b b).1 (inl refl))

      -- in a held chunk
      in_place : GivesInPlace own_case es b after → IsServed h (case_at n t i q.ask) es b old new after
      in_place gives =
          let y = with_block r x b in
          let after_is : after ≡ account y heap remaining = gives.state in
          let sound_now : r.IsSound y = subst r.IsSound (ap (λ (a : Account T). a.allocator) after_is) sound in
          let same = named.lawful.its_type x (r.chunks x) (set_of.insert (r.live x) b) in
          let chunks = named.lawful.its_chunks x (r.chunks x) (set_of.insert (r.live x) b) in
          let live = named.lawful.its_live x (r.chunks x) (set_of.insert (r.live x) b) in
          let lies = named.lawful.of_chunk y b sound_now (new_live y live) in
          let chunk : Chunk = lies.0 in
          let found : map.get (r.chunks x) (r.key b) ≡ Some chunk = subst (λ m. map.get m (r.key b) ≡ Some chunk) chunks lies.1.0 in
          let st = stood named h.has in
          let made_is = block_comes named st.stands y same b (r.key b) chunk found lies.1.1 chunks live in
          let there : map.get t.held (r.bytes b).object ≡ Some (row n x (r.key b) chunk) = ap (map.get t.held) lies.1.1 ∙ (linked named st.stands).chunks (r.key b) chunk found in
          let kept : new ≡ old = rw found at objects in
          let then = step named st y same {now = heaps} refl refl made_is (plain_of named y sound_now) (named.of_less l.config offered i x (r.chunks x) _ st.of (λ key d held. held))
          (booked-span offered heaps (whole own ss) remaining h.has.kept.books refl (whole own (put n ss i e y)) (row n x (r.key b) chunk) (block_span r b) there (named.shared (r.key b)) made_is.held_is (named.some y sound_now b (new_live y live)) made_is.live_is)
          (chosen_same l.sharing (whole own ss) (whole own (put n ss i e y)) st.chosen made_is.held_is) in
          let state_is = then.1 ∙ (λ k. record t { live = set_of.insert t.live (block_span r b); types = types_kept named ss i e x (is_at named h.has) h.has.is (first_types l.config offered) (r.chunks x) (set_of.insert (r.live x) b) k }) in
          let fields = with_kept y (with_span t (block_span r b)) (keep l then.0 (are_set named ss i e x (is_at named h.has) h.has.is l.config offered l.sharing h.has.kept.shared y then.0.of sound_now), state_is) in
          subst (IsServed h (case_at n t i q.ask) es b old new) (sym after_is) (record {
            kept = fields.0;
            gives = inl (record { fits = gives.fits; place = asked.taken t i x q.ask b (serves named h.has) gives.place; asked = gives.asked; state = fields.1 });
            objects_are = rw there kept;
          })

      -- in a new chunk
      in_new : GivesInNewObject own_case es b after → IsServed h (case_at n t i q.ask) es b old new after
      in_new gives =
          let size : ℕ = r.chunk_size x heap q.ask in
          let y = r.in_new_chunk x q.ask size b in
          let changed_heap : Heap = record heap { used = heap.used + size } in
          let after_is : after ≡ account y changed_heap (remaining - 1) = gives.state in
          let at_now = ap (λ (a : Account T). a.allocator) after_is in
          let sound_now : r.IsSound y = subst r.IsSound at_now sound in
          let st = stood named h.has in
          let chunks = named.lawful.one_chunk x q.ask size b gives.place in
          let live = named.lawful.one_block x q.ask size b gives.place in
          let own_key = named.lawful.new_key x (its named h.has).1 q.ask size b gives.place in
          let chunk : Chunk = record { object = (r.bytes b).object; size = size } in
          let found : map.get (r.chunks y) (r.key b) ≡ Some chunk = ap (λ m. map.get m (r.key b)) chunks ∙ own_inserted (r.chunks x) (r.key b) chunk in
          let more = made_new r.key (λ d. (r.bytes d).object) (r.served x).memory_type (r.served x).props (r.chunks x) (r.chunks after.allocator) b old new objects own_key in
          let free : map.get t.held (r.bytes b).object ≡ None = not_held t props old (r.bytes b).object agrees more.was_free in
          let typed = named.of_type l.config offered i x st.of in
          let size_is : size ≡ n.size t i q.ask = asked.size t i x heap q.ask (serves named h.has) in
          let held_row : HeldObject = record { memory_type = i; counted = size; kind = n.kind (r.key b) } in
          let made_is = chunk_comes named st.stands y (named.lawful.same_type x q.ask size b) b (r.key b) chunk free refl own_key chunks live in
          let held_is : (whole own (put n ss i e y)).held ≡ map.insert t.held (r.bytes b).object held_row = made_is.held_is ∙ (λ k. map.insert t.held (r.bytes b).object (record held_row { memory_type = typed.0 k })) in
          let then = step named st y (named.lawful.same_type x q.ask size b) (properties_kept l heaps j changed_heap heap h.at_heap refl) (limits_kept heaps j changed_heap heap h.at_heap refl) made_is (plain_of named y sound_now) (named.of_more l.config offered i x heap q.ask b st.of (its named h.has).1 gives.place sound_now)
          (booked-held offered heaps (whole own ss) remaining h.has.kept.books refl (whole own (put n ss i e y)) held_row (block_span r b)
          (record {
            with = record { nonempty = named.some y sound_now b (new_live y live); small = named.small y sound_now (r.key b) chunk found; known = h.has.known; lies = λ alone. absurd (let both = sym alone ∙ named.shared (r.key b) in cc) };
            free = free;
            held = held_is;
            live = made_is.live_is;
          }) heap changed_heap j gives.asks.has.remains.objects h.here h.at_heap refl (λ _. gives.asks.within))
          (chosen_more l.sharing (whole own ss) (whole own (put n ss i e y)) (r.bytes b).object held_row h.has.kept.chosen choice held_is) in
          let grown = named.grown t i x heap q.ask b (serves named h.has) gives.place in
          let state_is = then.1 ∙ (λ k. record t {
            held = map.insert t.held (r.bytes b).object (record { memory_type = typed.0 k; counted = size_is k; kind = n.kind (r.key b) });
            live = set_of.insert t.live (block_span r b);
            remaining = remaining - 1;
            types = types_put named ss i e x (is_at named h.has) h.has.is (first_types l.config offered) y k;
          }) ∙ ap (λ z. with_span z (block_span r b)) (sym grown) in
          let are = subst (λ z. AreStores l.config z l.sharing (put n ss i e y)) (sym (properties_kept l heaps j changed_heap heap h.at_heap refl)) (are_set named ss i e x (is_at named h.has) h.has.is l.config offered l.sharing h.has.kept.shared y (named.of_more l.config offered i x heap q.ask b st.of (its named h.has).1 gives.place sound_now) sound_now) in
          let found_now = ap (λ (z : State). map.get z.held (r.bytes b).object) (state_is ∙ ap (λ z. with_span z (block_span r b)) grown) ∙ own_inserted t.held (r.bytes b).object _ in
          subst (IsServed h (case_at n t i q.ask) es b old new) (sym after_is) (record {
            kept = keep l then.0 are;
            gives = inr (record {
              asks = asks_is both_tell gives.asks;
              place = record { is = asked.begun t i x heap q.ask b (serves named h.has) gives.place; was_free = free };
              asked = gives.asked ∙ ap (λ z. made z (r.bytes b).object) both_tell.question;
              state = state_is;
            });
            objects_are = rw free (counted_new t.properties (r.served x).memory_type (sees_chunks r x) chunk _ (r.bytes b).object _ _ old new (ap (λ z. map.get (r.chunks z) (r.key b)) at_now ∙ found) found_now typed.0 size_is
                (ap (λ bits. has_bit bits 2) typed.1 ∙ ap (λ seen. seen && is_host_visible t.properties i) (sym (named.shared (r.key b)))) more);
          })

      pub served : IsServed h d es b old new after
      served = subst (λ (z : Case Block State). IsServed h z es b old new after) (sym q.by_name) (elim (subst (λ (z : Case B (Account T)). Answers z es (Ok b) after) q.to_store answers) [
        | inl gives ↦ in_place gives
        | inr gives ↦ in_new gives
      ])

  -- Objects that go.

  module _ {s : State} {after : Account T} {es : List Event} {p q : Properties} {old new : ℕ → Option Object} (agrees : agreement.Agrees s p old) (properties : q ≡ p) where
    none_left : With h after s → es ≡ [] → new ≡ old → IsLeft h s [] after es q old new
    none_left fields told_so objects = record {
      kept = fields.0;
      lets = (told_so, fields.1 ∙ (let zero : s.remaining ≡ s.remaining + 0 = omega arith in λ k. record s { remaining = zero k }));
      objects = objects;
      agreed = subst (λ z. agreement.Agrees z q new) (sym fields.1) (subst (λ z. agreement.Agrees s z new) (sym properties) (subst (agreement.Agrees s p) (sym objects) agrees));
    }

    -- one chunk went in which no block was live
    one_left : {rest : List (TypeStores M X)} {f : TypeStores M X} {y : T} → Stood n l heaps rest own remaining i f y → state_of l heaps rest own remaining ≡ s → ((z : T) → put n rest i f z ≡ put n ss i e z) → (key : ℕ) → ((b : B) → IsLive r y b → r.key b ≢ key)
        → (goes : ReleasesChunk r (account y heap remaining) key es after) → r.IsSound after.allocator → new ≡ put_object old goes.0.object None → IsLeft h s (goes.0.object ∷ []) after es q old new
    one_left {rest} {f} {y} st state_is same key unused goes sound objects =
        let z = without_chunk r y key in
        let changed_heap : Heap = record heap { used = heap.used - goes.0.size } in
        let sound_now : r.IsSound z = subst r.IsSound (ap (λ (a : Account T). a.allocator) goes.2.1) sound in
        let went = released named st j heap h.here h.at_heap key goes.0 goes.1 unused (plain_of named z sound_now) in
        let now : State = record s { held = map.remove s.held goes.0.object; remaining = remaining + 1 } in
        let are = are_set named ss i e x (is_at named h.has) h.has.is l.config _ l.sharing (subst (λ a. AreStores l.config a l.sharing ss) (sym (properties_kept l heaps j changed_heap heap h.at_heap refl)) h.has.kept.shared) z went.0.of sound_now in
        let fields : With h (account z changed_heap (remaining + 1)) now = subst (λ ts. StandFor l (set heaps j changed_heap) ts own (remaining + 1) now) (same z) (
          keep l went.0 (subst (AreStores l.config (properties_in l (set heaps j changed_heap)) l.sharing) (sym (same z)) are),
          went.1 ∙ (λ k. record (state_is k) { held = map.remove (state_is k).held goes.0.object; remaining = remaining + 1 }),
        ) in
        let left = subst (λ a. With h a now) (sym goes.2.1) fields in
        let as_block = granted_block s 0 (n.kind key) (record { object = goes.0.object; offset = 0; size = 0 }) in
        record {
          kept = left.0;
          lets = (goes.2.0, left.1 ∙ (λ k. record now { remaining = (state_is k).remaining + 1 }));
          objects = objects;
          agreed = subst (λ a. agreement.Agrees a q new) (sym left.1) (agrees_returned s now p q old new as_block agrees properties objects refl refl (λ span live. live));
        }

  -- A cleanup.
  pub cleaned : {after : Account T} {es : List Event} {p q : Properties} {old new : ℕ → Option Object} → agreement.Agrees t p old → q ≡ p → r.IsSound after.allocator → (keep_last : Bool)
      → ((key : ℕ) → r.IsNext x keep_last key → (b : B) → IsLive r x b → r.key b ≢ key) → ReleasesNext r (account x heap remaining) keep_last es after old new → (names : List ℕ) × IsLeft h t names after es q old new × IsNextGone n x keep_last names
  cleaned agrees properties sound keep_last unused (inl none) = ([], none_left agrees properties (subst (λ a. With h a t) (sym none.2) unchanged) none.1 none.3, inl (refl, none.0))
  cleaned agrees properties sound keep_last unused (inr gone) =
      let goes = gone.2 in (
        goes.0.object ∷ [],
        one_left agrees properties (stood named h.has) refl (λ z. refl) gone.0 (unused gone.0 gone.1) goes sound gone.3,
        inr (gone.0, gone.1, goes.0, goes.1, refl),
      )

  -- It comes back.
  module _ {b : B} {block : Block} (its_block : IsBlockOf n x b block) where
    abbrev y : T
    y = without_block r x b

    abbrev rest : State
    rest = without_span t block

    pub went : Stood n l heaps (put n ss i e y) own remaining i (n.put e y) y × (state_of l heaps (put n ss i e y) own remaining ≡ rest)
    went = let it = without named (stood named h.has) b its_block.live in (it.0, it.1 ∙ (λ k. record t { live = set_of.remove t.live (sym its_block.span k) }))

    put_again : (z : T) → put n (put n ss i e y) i (n.put e y) z ≡ put n ss i e z
    put_again z = set-set ss i (n.put e y) (n.put (n.put e y) z) ∙ ap (set ss i) (named.twice e y z)

    -- its chunk
    pub own_chunk : (c : Chunk) × ((map.get (r.chunks y) (r.key b) ≡ Some c) × ((r.bytes b).object ≡ c.object))
    own_chunk = let lies = (stood named h.has).stands.plain.of_chunk b its_block.live in (lies.0, (ap (λ m. map.get m (r.key b)) (named.lawful.its_chunks x _ _) ∙ lies.1.0, lies.1.1))

    pub as_returned : {after : Account T} {es : List Event} {q : Properties} {old new : ℕ → Option Object} (c : Chunk) → (r.bytes b).object ≡ c.object → (names : List ℕ) → IsLeft h rest names after es q old new → ReleasedWith (n.kind (r.key b)) rest c.object names → IsReturned h block after es q old new
    as_returned c is names left with_it =
        let gone = subst (λ k. ReleasedWith k rest block.object names) (sym its_block.kind) (subst (λ o. ReleasedWith (n.kind (r.key b)) rest o names) (sym (ap (λ (z : Span). z.object) its_block.span ∙ is)) with_it) in
        record { kept = left.kept; frees = (names, gone, left.lets); freed = (names, gone, left.objects); agreed = left.agreed }

    -- Where the store is sound then, it is handed on.
    module _ (sound : r.IsSound y) where
      pub handed_then : Handed n l heaps (put n ss i e y) own remaining i j (n.put e y) y heap
      handed_then = handed n l (keep l went.0 (are_set named ss i e x (is_at named h.has) h.has.is l.config offered l.sharing h.has.kept.shared y went.0.of sound)) h.has.known went.0.stands.at went.0.stands.is h.here h.at_heap

      -- what is left in the end is left of what was handed first
      pub left_then : {names : List ℕ} {after : Account T} {es : List Event} {q : Properties} {old new : ℕ → Option Object} → IsLeft handed_then (before handed_then) names after es q old new → IsLeft h rest names after es q old new
      left_then {names} {after} {q = q} {new = new} left =
          let again = put_again after.allocator in
          let at_last = λ (ts : List (TypeStores M X)). state_of l (set heaps j after.heap) ts own after.remaining in
          record {
            kept = subst (λ ts. Keep l (set heaps j after.heap) ts own after.remaining) again left.kept;
            lets = (left.lets.0, ap at_last (sym again) ∙ left.lets.1 ∙ (λ k. record (went.1 k) { held = without_all (went.1 k).held names; remaining = (went.1 k).remaining + length names }));
            objects = left.objects;
            agreed = subst (λ ts. agreement.Agrees (at_last ts) q new) again left.agreed;
          }

    -- Its chunk goes with it or stays.
    module _ (at_once : (s : State) (c : Chunk) → map.get (r.chunks y) (r.key b) ≡ Some c → IsLinked n (table_of s) y → IsPlain n y → ReleasesAtOnce n x b s c) where
      goes_with : (c : Chunk) → map.get (r.chunks y) (r.key b) ≡ Some c → ReleasesAtOnce n x b rest c
      goes_with c is = at_once rest c is (subst (λ z. IsLinked n (table_of z) y) went.1 (linked named went.0.stands)) went.0.stands.plain

      module _ {after : Account T} {es : List Event} {p q : Properties} {old new : ℕ → Option Object} (sound : r.IsSound after.allocator) (agrees : agreement.Agrees t p old) (properties : q ≡ p) where
        pub back : shared.Frees r (account x heap remaining) b es after → shared.ObjectsFreed r x b old new → IsReturned h block after es q old new
        back (inl kept) (inl same) =
            let sound_now : r.IsSound y = subst r.IsSound (ap (λ (a : Account T). a.allocator) kept.1.1) sound in
            let fields = with_kept y rest (keep l went.0 (are_set named ss i e x (is_at named h.has) h.has.is l.config offered l.sharing h.has.kept.shared y went.0.of sound_now), went.1) in
            as_returned own_chunk.0 own_chunk.1.1 [] (none_left (agrees_without_span t p p old block agrees refl) properties (subst (λ a. With h a rest) (sym kept.1.1) fields) kept.1.0 same.1) ((goes_with own_chunk.0 own_chunk.1.0).stays kept.0)
        back (inl kept) (inr lost) = absurd (kept.0 lost.0)
        back (inr gone) (inl same) = absurd (same.0 gone.0)
        back (inr gone) (inr lost) =
            let goes = gone.1 in
            let also = goes_with goes.0 goes.1 in
            let object = own_chunk.1.1 ∙ ap (λ (c : Chunk). c.object) (one_value _ own_chunk.0 goes.0 own_chunk.1.0 goes.1) in
            as_returned goes.0 object (goes.0.object ∷ []) (one_left (agrees_without_span t p p old block agrees refl) properties went.0 went.1 put_again (r.key b) (also.goes gone.0).0 goes sound (lost.1 ∙ ap (λ o. put_object old o None) object)) (also.goes gone.0).1
