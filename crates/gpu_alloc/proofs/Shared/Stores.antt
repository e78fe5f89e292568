-- A store of shared chunks in the whole allocator's terms: what it says of itself, where it stands among the parts, and what
-- it and the state both say of free bytes, the device, the ledger and requests.
use Rattle.std.specs.Prelude.{◌-◌, ◌^◌, slice_get, sum_by}
use Rattle.std.proofs.Math.ListN.{set}
use Rattle.std.specs.Cmp.{IsTotalOrder}
use Rattle.std.specs.FinMap as map
use Rattle.std.specs.FinMap.{IsAntisymmetric}
use Rattle.std.specs.FinSet as set_of
use Rattle.gpu_alloc_types.specs.Properties.{Properties, heap_at, is_host_visible, props_at}
use Rattle.gpu_alloc_base.specs.Accounts.{Account, HeldChunks, account, IsCounted, chunk_bytes}
use Rattle.gpu_alloc_base.specs.Case.{Case}
use Rattle.gpu_alloc_base.specs.Chunks.{Chunk, IsThere, object_in}
use Rattle.gpu_alloc_base.specs.FreeSpace.{IsIn}
use Rattle.gpu_alloc_base.specs.NewChunk.{ChunkQuestion, flags_of}
use Rattle.gpu_alloc_base.specs.declared.config.Config.{Config}
use Rattle.gpu_alloc_base.specs.declared.heap.Heap.{Heap}
use Rattle.gpu_alloc_block.specs.Parts.{HaveOwnObjects, IsAt, Part, Chunks, Held, Holds, Live, Makes, by_name, by_span}
use Rattle.gpu_alloc_block.specs.State.{Block, HeldObject, Span, State, TypeState, granted_block, heap_limit, is_shared, ledger, share, span_of}
use Rattle.gpu_alloc_block.specs.declared.block.Kind.{Kind}
use Rattle.gpu_alloc_block.specs.declared.sharing.Sharing.{Sharing}
use Rattle.gpu_alloc_shared.specs.Rule.{IsLawful, IsLive, Rule}
use Rattle.gpu_alloc_shared.specs.Shared.{ask_case, without_block, Agrees, sees_chunks}
use Rattle.gpu_alloc.specs.BuddySharing.{with_span}
use Rattle.gpu_alloc.specs.Candidates.{IsNewBlock}
use Rattle.gpu_alloc.specs.Inside.{IsLiveIn, IsBooked}
use Rattle.gpu_alloc.specs.Own.{OwnTable}
use Rattle.gpu_alloc.specs.Spans.{Table}
use Rattle.gpu_alloc.specs.Stores.{AreStoresFor, block_span, chunk_row, part, type_sizes}
use Rattle.gpu_alloc.specs.Whole.{AreOneWhole, IsPartFor, own_part, part_at, parts_of, part_side, whole}
use Rattle.gpu_alloc.specs.declared.allocator.stores.TypeStores.{TypeStores}
use Rattle.gpu_alloc.proofs.Shared.Types.{changed}
use Rattle.std.proofs.Common.{◌≡◌, ◌≢◌, ℕ, suc, ◌<◌, List, ◌∷◌, length, Some, None, IsTrue, refl, sym, ◌∙◌, ap, subst, arith, ◌≤◌, true, get_or, Option, IfSome}
use Rattle.std.proofs.lemmas.List.{get_or-set_same, length-set}
use Rattle.gpu_alloc_base.proofs.ListSets.{in_removed}
use Rattle.gpu_alloc_block.proofs.Parts.ByName.{name_there, name_was, span_row_live, span_row_there}
use Rattle.gpu_alloc_block.proofs.Parts.Steps.{holds_of, own_part as part_owns, part_span}
use Rattle.gpu_alloc_block.proofs.Parts.Stores as store
use Rattle.gpu_alloc_block.proofs.Parts.Unions.{live_of}
use Rattle.gpu_alloc.proofs.Shared.Free.{IsCopy}
use Rattle.gpu_alloc.proofs.Wholes.{at_read, single, two, type_part_at, type_part_set}
use Rattle.gpu_alloc_types.specs.Device.{Object, HeldWith}
use Rattle.gpu_alloc_types.specs.Flags.{has_bit}
use Rattle.gpu_alloc_base.proofs.Maps.{eq-true, one_value}
use Rattle.gpu_alloc_base.proofs.Sums.{len-within, sum_by-within}
use Rattle.gpu_alloc_base.proofs.ToldTwice.{IsToldAs}
use Rattle.gpu_alloc_block.specs.Agreement as agreement
use Rattle.gpu_alloc_block.specs.Agreement.{IsCountedFor, IsHeldThere, IsMappedWhole}
use Rattle.gpu_alloc_block.specs.declared.block.Kind.TheVariants.{Dedicated, Imported, BuddyChunk, FreeListChunk, FitChunk}
use Rattle.gpu_alloc.specs.FreeBytes.{IsFreeByte}
use Rattle.gpu_alloc.specs.Release.{IsUnused}
use Rattle.gpu_alloc.proofs.HeapLists.{IsHeap, ledger_at}

-- what a state holds
abbrev pub table_of : State → Table
table_of s = record { held = s.held; live = s.live }

pub record Named {T A B : Type 0} (r : Rule T A B) : Type 1 where
  -- its chunks' kind, by key
  pub kind : ℕ → Kind
  -- A memory type's one, where it has one; another one in its place; and which of both parts is its.
  pub get : {M X : Type 0} → TypeStores M X → Option T
  pub put : {M X : Type 0} → TypeStores M X → T → TypeStores M X
  pub side : ℕ
  -- what it is for a memory type between calls, and without being sound, and how it changes its memory type's sizes
  pub IsFor : Config → Properties → ℕ → T → Type 0
  pub IsOf : Config → Properties → ℕ → T → Type 0
  pub sizes : T → TypeState → TypeState
  -- which bytes of which chunks are free
  pub Free : T → ℕ → ℕ → Type 0
  -- A request: it is for some bytes, where that matters; there is room; the block lies in it; a number is left; the size of a new chunk; the block in one of this
  -- name; and one more chunk is held, of this name and size.
  pub IsSome : A → Type 0
  pub HasPlace : State → ℕ → A → Type 0
  pub IsTaken : State → ℕ → A → Block → Type 0
  pub HasNumber : State → ℕ → Type 0
  pub size : State → ℕ → A → ℕ
  pub new_block : State → ℕ → A → ℕ → Block
  pub with_chunk : State → ℕ → ℕ → ℕ → State

module _ {T A B : Type 0} {r : Rule T A B} (n : Named r) where
  -- another one is put in its memory type's place
  abbrev pub put : {M X : Type 0} → List (TypeStores M X) → ℕ → TypeStores M X → T → List (TypeStores M X)
  put ss i e x = set ss i (n.put e x)

  -- where its part stands
  abbrev pub spot : ℕ → ℕ
  spot i = suc (part_at i n.side)

  abbrev pub row : T → ℕ → Chunk → HeldObject
  row x key c = chunk_row r n.kind x key c

  -- the block that a grant gives
  abbrev pub block_at : State → ℕ → B → Block
  block_at s i b = granted_block s i (n.kind (r.key b)) (block_span r b)

  abbrev pub question_at : State → ℕ → A → ChunkQuestion
  question_at s i ask =
      record { size = n.size s i ask; memory_type = i; flags = flags_of s.properties; mapped = is_host_visible s.properties i }

  -- a request, in terms of the state
  abbrev pub case_at : State → ℕ → A → Case Block State
  case_at s i ask = record {
    before = s;
    Fits = r.Fits ask;
    HasPlace = n.HasPlace s i ask;
    remaining = s.remaining;
    HasNumber = n.HasNumber s i;
    question = question_at s i ask;
    ledger = ledger s (heap_at s.properties i);
    limit = heap_limit s (heap_at s.properties i);
    two_handles = true;
    object = λ b. b.object;
    IsInPlace = n.IsTaken s i ask;
    with_block = λ b. with_span s (span_of b);
    IsInNewObject = λ b. IsNewBlock s b (n.new_block s i ask b.object);
    with_object = λ b. with_span (n.with_chunk s i b.object (n.size s i ask)) (span_of b);
  }

  -- Two cases of one request: to the store with this heap and count, and in terms of the state.
  pub record IsRequest (s : State) (i : ℕ) (x : T) (heap : Heap) (remaining : ℕ) (c : Case B (Account T)) (d : Case Block State) : Type 1 where
    pub ask : A
    pub flags : ℕ
    pub some : n.IsSome ask
    pub flags_are : flags ≡ flags_of s.properties
    pub to_store : c ≡ ask_case r (account x heap remaining) ask flags
    pub by_name : d ≡ case_at s i ask

  -- the object is held as a chunk of this store
  pub record IsHeldAs (t : Table) (x : T) (object : ℕ) (h : HeldObject) : Type 0 where
    pub key : ℕ
    pub held : map.get t.held object ≡ Some h
    pub of_kind : h.kind ≡ n.kind key
    pub of_type : h.memory_type ≡ (r.served x).memory_type

  -- the table has the same chunks, and the same blocks in them
  pub record IsLinked (t : Table) (x : T) : Type 0 where
    pub chunks : (key : ℕ) (c : Chunk) → map.get (r.chunks x) key ≡ Some c → map.get t.held c.object ≡ Some (row x key c)
    pub objects : (object : ℕ) (h : HeldObject) → IsHeldAs t x object h → (key : ℕ) × (map.get (r.chunks x) key ≡ Some (record { object = object; size = h.counted })) × (n.kind key ≡ h.kind)
    pub blocks : (b : B) → IsLive r x b → IsLiveIn t (block_span r b)
    pub spans : (span : Span) (h : HeldObject) → IsLiveIn t span → IsHeldAs t x span.object h → (b : B) × IsLive r x b × (block_span r b ≡ span)

  -- chunks have objects of their own, blocks lie in their chunks' objects, and no two have one span
  pub record IsPlain (x : T) : Type 0 where
    pub own_object : HaveOwnObjects (r.chunks x)
    pub of_chunk : (b : B) → IsLive r x b → (c : Chunk) × ((map.get (r.chunks x) (r.key b) ≡ Some c) × ((r.bytes b).object ≡ c.object))
    pub one_span : (a b : B) → IsLive r x a → IsLive r x b → block_span r a ≡ block_span r b → a ≡ b

  -- the byte lies in a held chunk, and in no live block
  pub record IsFreeAt (x : T) (key at : ℕ) : Type 0 where
    pub held : Chunk
    pub is : map.get (r.chunks x) key ≡ Some held
    pub inside : at < held.size
    pub unused : (b : B) → IsLive r x b → r.key b ≡ key → IsIn (r.bytes b).offset (r.bytes b).size at → ⊥

  -- the store is a memory type's, and the state says the same
  pub record Serves (s : State) (i : ℕ) (x : T) : Type 0 where
    pub linked : IsLinked (table_of s) x
    pub of : n.IsOf s.config s.properties i x
    pub sound : r.IsSound x
    -- what is read of its memory type's sizes is its own
    pub next : (read : Option TypeState → ℕ) (m : ℕ) → ((type : TypeState) → read (Some (n.sizes x type)) ≡ m) → read (slice_get s.types i) ≡ m

  -- What each store owes.
  pub record IsNamed : Type 1 where
    pub lawful : IsLawful r
    pub shared : (key : ℕ) → is_shared (n.kind key) ≡ true
    pub total : IsTotalOrder r.order
    pub exact : IsAntisymmetric r.order
    -- Among a memory type's stores.
    pub got : {M X : Type 0} (e : TypeStores M X) (x : T) → n.get (n.put e x) ≡ Some x
    pub same : {M X : Type 0} (e : TypeStores M X) (x : T) → n.get e ≡ Some x → n.put e x ≡ e
    pub twice : {M X : Type 0} (e : TypeStores M X) (x y : T) → n.put (n.put e x) y ≡ n.put e y
    pub part_there : {M X : Type 0} (e : TypeStores M X) (x : T) → n.get e ≡ Some x → IsAt (two e) n.side (part r n.kind x)
    pub part_set : {M X : Type 0} (e : TypeStores M X) (x y : T) → n.get e ≡ Some x → set (two e) n.side (part r n.kind y) ≡ two (n.put e y)
    pub side_small : n.side < 2
    pub placed : (key : ℕ) (kind : Kind) → kind ≡ n.kind key → part_side kind ≡ n.side
    -- What they are for.
    pub each : {M X : Type 0} (c : Config) (p : Properties) (sharing : Sharing) (i : ℕ) (e : TypeStores M X) (x : T) → AreStoresFor c p sharing i e → n.get e ≡ Some x → n.IsFor c p i x
    pub each_put : {M X : Type 0} (c : Config) (p : Properties) (sharing : Sharing) (i : ℕ) (e : TypeStores M X) (x y : T) → AreStoresFor c p sharing i e → n.get e ≡ Some x → n.IsFor c p i y → AreStoresFor c p sharing i (n.put e y)
    pub for_is : (c : Config) (p : Properties) (i : ℕ) (x : T) → n.IsFor c p i x → n.IsOf c p i x × r.IsSound x
    pub for_of : (c : Config) (p : Properties) (i : ℕ) (x : T) → n.IsOf c p i x → r.IsSound x → n.IsFor c p i x
    pub of_type : (c : Config) (p : Properties) (i : ℕ) (x : T) → n.IsOf c p i x → ((r.served x).memory_type ≡ i) × ((r.served x).props ≡ props_at p i)
    pub of_less : (c : Config) (p : Properties) (i : ℕ) (x : T) (chunks : HeldChunks) (live : set_of.FinSet r.order) → n.IsOf c p i x
        → ((key : ℕ) (c : Chunk) → map.get chunks key ≡ Some c → map.get (r.chunks x) key ≡ Some c) → n.IsOf c p i (r.with_space x chunks live)
    pub of_more : (c : Config) (p : Properties) (i : ℕ) (x : T) (heap : Heap) (ask : A) (b : B) → n.IsOf c p i x → r.IsSound x → r.Begins x ask (r.chunk_size x heap ask) b
        → r.IsSound (r.in_new_chunk x ask (r.chunk_size x heap ask) b) → n.IsOf c p i (r.in_new_chunk x ask (r.chunk_size x heap ask) b)
    -- The sizes of next chunks.
    pub types_put : {M X : Type 0} (e : TypeStores M X) (x y : T) (type : TypeState) → n.get e ≡ Some x → type_sizes (n.put e y) type ≡ n.sizes y (type_sizes e type)
    pub sizes_kept : (x : T) (chunks : HeldChunks) (live : set_of.FinSet r.order) → n.sizes (r.with_space x chunks live) ≡ n.sizes x
    pub grown : (s : State) (i : ℕ) (x : T) (heap : Heap) (ask : A) (b : B) → Serves s i x → r.Begins x ask (r.chunk_size x heap ask) b → n.with_chunk s i (r.bytes b).object (n.size s i ask) ≡ record s {
      held = map.insert s.held (r.bytes b).object (record { memory_type = i; counted = n.size s i ask; kind = n.kind (r.key b) });
      remaining = s.remaining - 1;
      types = changed (n.sizes (r.in_new_chunk x ask (r.chunk_size x heap ask) b)) s.types i;
    }
    -- Blocks and chunks.
    pub one_span : (x : T) → r.IsSound x → (a b : B) → IsLive r x a → IsLive r x b → block_span r a ≡ block_span r b → a ≡ b
    pub some : (x : T) → r.IsSound x → (b : B) → IsLive r x b → 0 < (r.bytes b).size
    pub free_is : (x : T) (key at : ℕ) → n.Free x key at → IsFreeAt x key at
    pub free_was : (x : T) (key at : ℕ) → IsFreeAt x key at → n.Free x key at
    pub small : (x : T) → r.IsSound x → (key : ℕ) (c : Chunk) → map.get (r.chunks x) key ≡ Some c → c.size < 2 ^ 64

  -- What it owes of its requests.
  pub record AreAsked : Type 0 where
    pub place : (s : State) (i : ℕ) (x : T) (ask : A) → Serves s i x → r.HasPlace x ask → n.HasPlace s i ask
    pub place_was : (s : State) (i : ℕ) (x : T) (ask : A) → Serves s i x → n.IsSome ask → n.HasPlace s i ask → r.HasPlace x ask
    pub number : (s : State) (i : ℕ) (x : T) → Serves s i x → r.HasNumber x → n.HasNumber s i
    pub number_was : (s : State) (i : ℕ) (x : T) → Serves s i x → n.HasNumber s i → r.HasNumber x
    pub size : (s : State) (i : ℕ) (x : T) (heap : Heap) (ask : A) → Serves s i x → r.chunk_size x heap ask ≡ n.size s i ask
    pub taken : (s : State) (i : ℕ) (x : T) (ask : A) (b : B) → Serves s i x → r.IsTaken x ask b → n.IsTaken s i ask (block_at s i b)
    pub begun : (s : State) (i : ℕ) (x : T) (heap : Heap) (ask : A) (b : B) → Serves s i x → r.Begins x ask (r.chunk_size x heap ask) b → block_at s i b ≡ n.new_block s i ask (r.bytes b).object

module _ {T A B : Type 0} {r : Rule T A B} (n : Named r) where
  pub record Stands {M X : Type 0} (own : OwnTable) (ss : List (TypeStores M X)) (i : ℕ) (e : TypeStores M X) (x : T) : Type 0 where
    pub apart : AreOneWhole own ss
    pub at : e ≡ get_or ss i e
    pub inside : i < length ss
    pub is : n.get e ≡ Some x
    pub of_type : (r.served x).memory_type ≡ i
    pub plain : IsPlain n x

module _ {T A B : Type 0} {r : Rule T A B} {n : Named r} (named : IsNamed n) where
  pub plain_of : (x : T) → r.IsSound x → IsPlain n x
  plain_of x sound = record { own_object = named.lawful.own_object x sound; of_chunk = λ b. named.lawful.of_chunk x b sound; one_span = named.one_span x sound }

  -- with a block fewer
  pub plain_without : (x : T) (b : B) → IsPlain n x → IsPlain n (without_block r x b)
  plain_without x b plain = record {
    own_object = subst HaveOwnObjects (sym chunks) plain.own_object;
    of_chunk = λ q live. subst (λ (m : Chunks). (c : Chunk) × ((map.get m (r.key q) ≡ Some c) × ((r.bytes q).object ≡ c.object))) (sym chunks) (plain.of_chunk q (was q live));
    one_span = λ p q live also. plain.one_span p q (was p live) (was q also);
  }
    where
      chunks : r.chunks (without_block r x b) ≡ r.chunks x
      chunks = named.lawful.its_chunks x (r.chunks x) (set_of.remove (r.live x) b)

      was : (q : B) → IsLive r (without_block r x b) q → IsLive r x q
      was q live = ((in_removed r.order named.total named.exact (r.live x) b q).0 (subst (λ rows. IsTrue (set_of.contains rows q)) (named.lawful.its_live x (r.chunks x) (set_of.remove (r.live x) b)) live)).1

module _ {T A B : Type 0} {r : Rule T A B} {n : Named r} (named : IsNamed n) {M X : Type 0} {own : OwnTable} {ss : List (TypeStores M X)} {i : ℕ} {e : TypeStores M X} {x : T} (st : Stands n own ss i e x) where
  abbrev own_place : Part
  own_place = part r n.kind x

  pub in_all : IsAt ss i e
  in_all = at_read ss i e st.inside st.at

  at : IsAt (parts_of own ss) (spot n i) own_place
  at = type_part_at ss i e n.side own_place in_all (named.part_there e x st.is)

  -- an object of its kind is its to hold
  its_spot : (key : ℕ) (h : HeldObject) → h.kind ≡ n.kind key → h.memory_type ≡ i → IsPartFor (spot n i) h
  its_spot key h kind type = (ap is_shared kind ∙ named.shared key, λ k. part_at (type k) (named.placed key h.kind kind k))

  holds : (object : ℕ) (h : HeldObject) → IsHeldAs n (whole own ss) x object h → Holds own_place object h
  holds object h of =
      part_owns IsPartFor (parts_of own ss) st.apart single (spot n i) own_place object h of.held (its_spot of.key h of.of_kind (of.of_type ∙ st.of_type)) at

  pub linked : IsLinked n (whole own ss) x
  linked = record {
    chunks = λ key c held. holds_of IsPartFor (parts_of own ss) st.apart (spot n i) own_place c.object (row n x key c) at (name_there (row n x) (r.chunks x) st.plain.own_object key c held);
    objects = λ object h of.
        let was = name_was (row n x) (r.chunks x) st.plain.own_object object h (holds object h of) in
        (was.0, was.2 ∙ (λ k. Some (record { object = was.3 k; size = (was.4 k).counted })), ap (λ (o : HeldObject). o.kind) was.4);
    blocks = λ b live. live_of (parts_of own ss) (spot n i) own_place (block_span r b) at (span_row_live named.total named.exact (block_span r) (r.live x) b live);
    spans = λ span h live of. span_row_there named.total named.exact (block_span r) (r.live x) span (part_span IsPartFor (parts_of own ss) st.apart (spot n i) own_place span h live (holds span.object h of) at);
  }

  -- Another one of its memory type is put in its place.

  module _ (y : T) (same : r.served y ≡ r.served x) where
    abbrev then : List (TypeStores M X)
    then = put n ss i e y

    pub stands_now : AreOneWhole own then → IsPlain n y → Stands n own then i (n.put e y) y
    stands_now apart plain = record {
      apart = apart;
      at = sym (get_or-set_same ss i (n.put e y) (n.put e y) st.inside);
      inside = omega (arith, st.inside, length-set ss i (n.put e y));
      is = named.got e y;
      of_type = ap (λ m. m.memory_type) same ∙ st.of_type;
      plain = plain;
    }

    held_as : (chunks : Chunks) → r.chunks y ≡ chunks → (part r n.kind y).held ≡ by_name (row n x) chunks
    held_as chunks is = λ k. by_name (λ key c. record { memory_type = (same k).memory_type; counted = c.size; kind = n.kind key }) (is k)

    abbrev MakesThen : Held → Live → Type 0
    MakesThen held live = Makes IsPartFor (parts_of own then) held live

    makes : {held : Held} {live : Live} → Makes IsPartFor (set (parts_of own ss) (spot n i) (part r n.kind y)) held live → MakesThen held live
    makes {held} {live} it =
        let parts_are = type_part_set ss i e (n.put e y) n.side (part r n.kind y) named.side_small in_all (named.part_set e x y st.is) in
        subst (λ ps. Makes IsPartFor ps held live) (ap (λ ps. own_part own ∷ ps) parts_are) it

    pub block_comes : (b : B) (key : ℕ) (c : Chunk) → map.get (r.chunks x) key ≡ Some c → (r.bytes b).object ≡ c.object → r.chunks y ≡ r.chunks x → r.live y ≡ set_of.insert (r.live x) b
        → MakesThen (whole own ss).held (set_of.insert (whole own ss).live (block_span r b))
    block_comes b key c is object chunks live =
        makes (store.row_comes named.total named.exact (block_span r) IsPartFor (parts_of own ss) st.apart (spot n i) (row n x) (r.chunks x) (r.live x) st.plain.own_object at (part r n.kind y) b key c is object
        (held_as (r.chunks x) chunks) (ap (by_span (block_span r)) live))

    pub chunk_comes : (b : B) (key : ℕ) (c : Chunk) → map.get (whole own ss).held (r.bytes b).object ≡ None → (r.bytes b).object ≡ c.object → map.get (r.chunks x) key ≡ None → r.chunks y ≡ map.insert (r.chunks x) key c
        → r.live y ≡ set_of.insert (r.live x) b → MakesThen (map.insert (whole own ss).held (r.bytes b).object (row n x key c)) (set_of.insert (whole own ss).live (block_span r b))
    chunk_comes b key c none object free chunks live =
        makes (store.chunk_comes named.total named.exact (block_span r) IsPartFor (parts_of own ss) st.apart (spot n i) (row n x) (r.chunks x) (r.live x) st.plain.own_object at (part r n.kind y) b key c none object free
        (its_spot key (row n x key c) refl st.of_type) (held_as _ chunks) (ap (by_span (block_span r)) live))

    pub block_goes : (b : B) → IsLive r x b → r.chunks y ≡ r.chunks x → r.live y ≡ set_of.remove (r.live x) b → MakesThen (whole own ss).held (set_of.remove (whole own ss).live (block_span r b))
    block_goes b was chunks live =
        let lies = st.plain.of_chunk b was in
        makes (store.row_goes named.total named.exact (block_span r) IsPartFor (parts_of own ss) st.apart (spot n i) (row n x) (r.chunks x) (r.live x) st.plain.own_object at (part r n.kind y) st.plain.one_span b was (r.key b) lies.0 lies.1.0 lies.1.1
        (ap (by_span (block_span r)) live) (held_as (r.chunks x) chunks))

    pub chunk_goes : (key : ℕ) (c : Chunk) → map.get (r.chunks x) key ≡ Some c → ((b : B) → IsLive r x b → r.key b ≢ key) → r.chunks y ≡ map.remove (r.chunks x) key → r.live y ≡ r.live x
        → MakesThen (map.remove (whole own ss).held c.object) (whole own ss).live
    chunk_goes key c is unused chunks live =
        makes (store.chunk_goes named.total named.exact (block_span r) IsPartFor (parts_of own ss) st.apart (spot n i) (row n x) (r.chunks x) (r.live x) st.plain.own_object at (part r n.kind y) key c is
        (λ b stood object. let lies = st.plain.of_chunk b stood in unused b stood (st.plain.own_object (r.key b) key lies.0 c lies.1.0 is (sym lies.1.1 ∙ object)))
        (held_as _ chunks) (ap (by_span (block_span r)) live))

-- as a shared object is counted
shared_there : (kind : Kind) (s : State) (name counted : ℕ) (o : Object) → is_shared kind ≡ true → IsCountedFor kind s name counted o → (o.size ≡ counted) × IsMappedWhole s.properties o
shared_there Dedicated s name counted o shared is = absurd (cc)
shared_there Imported s name counted o shared is = absurd (cc)
shared_there BuddyChunk s name counted o shared is = is
shared_there (FreeListChunk number) s name counted o shared is = is
shared_there FitChunk s name counted o shared is = is

module _ {T A B : Type 0} {r : Rule T A B} {n : Named r} (t : Table) (x : T) (linked : IsLinked n t x) (plain : IsPlain n x) where
  -- a live span of a chunk's object is a block of the chunk
  pub block_there : (key : ℕ) (c : Chunk) (span : Span) → map.get (r.chunks x) key ≡ Some c → span.object ≡ c.object → IsLiveIn t span → (b : B) × IsLive r x b × (block_span r b ≡ span) × (r.key b ≡ key)
  block_there key c span is named live =
      let held = subst (λ o. map.get t.held o ≡ Some (row n x key c)) (sym named) (linked.chunks key c is) in
      let there = linked.spans span (row n x key c) live (record { key = key; held = held; of_kind = refl; of_type = refl }) in
      let lies = plain.of_chunk there.0 there.1 in
      (there.0, there.1, there.2, plain.own_object (r.key there.0) key lies.0 c lies.1.0 is (sym lies.1.1 ∙ ap (λ (x : Span). x.object) there.2 ∙ named))

  -- and a block's span is of its chunk's object
  object_there : (key : ℕ) (c : Chunk) (b : B) → map.get (r.chunks x) key ≡ Some c → IsLive r x b → r.key b ≡ key → (r.bytes b).object ≡ c.object
  object_there key c b is live in_chunk =
      let lies = plain.of_chunk b live in
      lies.1.1 ∙ ap (λ (d : Chunk). d.object) (one_value _ lies.0 c lies.1.0 (ap (map.get (r.chunks x)) in_chunk ∙ is))

-- no block of a chunk is live exactly where no span of its object is
module _ {T A B : Type 0} {r : Rule T A B} {n : Named r} (s : State) (x : T) (linked : IsLinked n (table_of s) x) (plain : IsPlain n x) where
  pub unused_is : (key : ℕ) (c : Chunk) → map.get (r.chunks x) key ≡ Some c → ((b : B) → IsLive r x b → r.key b ≢ key) → IsUnused s c.object
  unused_is key c is unused span live named = let there = block_there (table_of s) x linked plain key c span is named live in unused there.0 there.1 there.3

  pub unused_was : (key : ℕ) (c : Chunk) → map.get (r.chunks x) key ≡ Some c → IsUnused s c.object → (b : B) → IsLive r x b → r.key b ≢ key
  unused_was key c is unused b live in_chunk = unused (block_span r b) (linked.blocks b live) (object_there (table_of s) x linked plain key c b is live in_chunk)

module _ {T A B : Type 0} {r : Rule T A B} {n : Named r} (named : IsNamed n) (s : State) (i : ℕ) (x : T) (serves : Serves n s i x) where
  plain : IsPlain n x
  plain = plain_of named x serves.sound

  type_is : (r.served x).memory_type ≡ i
  type_is = (named.of_type s.config s.properties i x serves.of).0

  -- Free bytes.

  pub byte_is : (key at : ℕ) (c : Chunk) → map.get (r.chunks x) key ≡ Some c → n.Free x key at → IsFreeByte s i (n.kind key) c.object at
  byte_is key at c is bytes =
      let free = named.free_is x key at bytes in
      record {
        chunk = row n x key c;
        held = serves.linked.chunks key c is;
        of_type = type_is;
        of_kind = refl;
        inside = omega (arith, free.inside, ap (λ (d : Chunk). d.size) (one_value _ free.held c free.is is));
        unused = λ span live of_it at_in.
            let there = block_there (table_of s) x serves.linked plain key c span is of_it live in
            free.unused there.0 there.1 there.3 (subst (λ (q : Span). IsIn q.offset q.size at) (sym there.2) at_in);
      }

  pub byte_was : (key at : ℕ) (c : Chunk) → map.get (r.chunks x) key ≡ Some c → IsFreeByte s i (n.kind key) c.object at → n.Free x key at
  byte_was key at c is free = named.free_was x key at (record {
    held = c;
    is = is;
    inside = omega (arith, free.inside, ap (λ (h : HeldObject). h.counted) (one_value _ free.chunk (row n x key c) free.held (serves.linked.chunks key c is)));
    unused = λ b live in_chunk at_in. free.unused (block_span r b) (serves.linked.blocks b live) (object_there (table_of s) x serves.linked plain key c b is live in_chunk) at_in;
  })

  -- where all chunks are of one kind
  pub bytes_are : (kind : Kind) → ((key : ℕ) → n.kind key ≡ kind) → IsCopy (n.Free x) (IsFreeByte s i kind) (λ key. object_in (map.get (r.chunks x) key))
  bytes_are kind of = record {
    to = λ key at free.
        let f = named.free_is x key at free in
        subst (λ o. IsFreeByte s i kind o at) (sym (ap object_in f.is)) (subst (λ k. IsFreeByte s i k f.held.object at) (of key) (byte_is key at f.held f.is free));
    from = λ object at free.
        let own = serves.linked.objects object free.chunk (record { key = 0; held = free.held; of_kind = free.of_kind ∙ sym (of 0); of_type = free.of_type ∙ sym type_is }) in
        (own.0, ap object_in own.1, byte_was own.0 at _ own.1 (subst (λ k. IsFreeByte s i k object at) (sym (of own.0)) free));
    one = λ key also at before free other same.
        let f = named.free_is x key at free in
        let o = named.free_is x also before other in
        plain.own_object key also f.held o.held f.is o.is (sym (ap object_in f.is) ∙ same ∙ ap object_in o.is);
  }

  -- The device.

  pub agrees : (p : Properties) (objects : ℕ → Option Object) → i < length s.properties.memory_types → agreement.Agrees s p objects → Agrees r x p objects
  agrees p objects known agreed = record {
    known = subst (λ t. t < length p.memory_types) (sym type_is) (subst (λ (q : Properties). i < length q.memory_types) (sym agreed.properties) known);
    same = ap (λ (q : Properties). props_at q (r.served x).memory_type) agreed.properties ∙ at_type;
    holds = λ key. held key (map.get (r.chunks x) key) refl;
  }
    where
      at_type : props_at s.properties (r.served x).memory_type ≡ (r.served x).props
      at_type = ap (props_at s.properties) type_is ∙ sym (named.of_type s.config s.properties i x serves.of).1

      held : (key : ℕ) (v : Option Chunk) → map.get (r.chunks x) key ≡ v → IfSome v (λ c. HeldWith objects c.object (IsThere (r.served x).memory_type (sees_chunks r x) c))
      held key None none = tt
      held key (Some c) is =
          let h = subst (λ (v : Option HeldObject). IfSome v (λ h. HeldWith objects c.object (IsHeldThere s c.object h))) (serves.linked.chunks key c is) (agreed.holds c.object) in
          let there = shared_there (n.kind key) s c.object c.size h.0 (named.shared key) h.2.of_size in (
            h.0,
            h.1,
            record { of_type = h.2.of_type; of_size = there.0; mapped = λ visible. there.1 (ap (is_host_visible s.properties) h.2.of_type ∙ ap (λ bits. has_bit bits 2) at_type ∙ visible) },
          )

  -- The ledger and the count.

  pub counted : (heaps : List Heap) (j : ℕ) (heap : Heap) → IsBooked s.properties heaps (table_of s) s.remaining → j ≡ heap_at s.properties i → j < length heaps → heap ≡ get_or heaps j heap → IsCounted (r.chunks x) heap s.remaining
  counted heaps j heap booked here inside at = record {
    ledger = subst (λ m. chunk_bytes (r.chunks x) ≤ m) (sym (ledger_at s.properties heaps j heap (map.entries s.held) booked.ledgers inside at)) bytes;
    objects = omega (arith, booked.count, count);
  }
    where
      at_heap : heap_at s.properties (r.served x).memory_type ≡ j
      at_heap = ap (heap_at s.properties) type_is ∙ sym here

      bytes : chunk_bytes (r.chunks x) ≤ sum_by (share s.properties j) (map.entries s.held)
      bytes = sum_by-within (λ (c : Chunk). c.object) (λ (e : ℕ × Chunk). e.1.size) (share s.properties j) (r.chunks x) s.held (λ k c is. (row n x k c, serves.linked.chunks k c is, rw (eq-true (heap_at s.properties (r.served x).memory_type) j at_heap) (omega arith))) plain.own_object

      count : map.len (r.chunks x) ≤ map.len s.held
      count = len-within (λ (c : Chunk). c.object) (r.chunks x) s.held (λ k c is. (row n x k c, serves.linked.chunks k c is)) plain.own_object

  -- A request, which both describe.

  pub told : (asked : AreAsked n) (heap : Heap) (ask : A) (flags : ℕ) → n.IsSome ask → IsHeap s (heap_at s.properties i) heap → flags ≡ flags_of s.properties → IsToldAs (ask_case r (account x heap s.remaining) ask flags) (case_at n s i ask)
  told asked heap ask flags asks of is = record {
    fits = λ fits. fits;
    fitted = λ fits. fits;
    place = asked.place s i x ask serves;
    placed = asked.place_was s i x ask serves asks;
    number = asked.number s i x serves;
    numbered = asked.number_was s i x serves;
    remaining = refl;
    question = λ k. record { size = asked.size s i x heap ask serves k; memory_type = type_is k; flags = is k; mapped = has_bit ((named.of_type s.config s.properties i x serves.of).1 k) 2 };
    ledger = of.used;
    limit = of.limit;
    handles = refl;
  }
