-- What an allocator's fields stand for, and their invariants.
use Rattle.std.specs.Prelude.{◌≡◌, ℕ, ◌+◌, ◌<◌, ◌≤◌, ◌^◌, true, false, List, [], ◌∷◌, map, length, slice_get, sum_by, Some}
use Rattle.std.specs.Prelude.{IfSome, IsTrue}
use Rattle.std.specs.FinMap as map_of
use Rattle.std.specs.FinSet as set
use Rattle.gpu_alloc_types.specs.Properties.{Properties, IsUsable}
use Rattle.gpu_alloc_types.specs.declared.types.MemoryHeap.{MemoryHeap}
use Rattle.gpu_alloc.specs.declared.limits.Limits.{Limits}
use Rattle.gpu_alloc_block.specs.declared.sharing.Sharing.{Sharing}
use Rattle.gpu_alloc_base.specs.declared.heap.Heap.{Heap}
use Rattle.gpu_alloc.specs.Budget.{asked_share}
use Rattle.gpu_alloc.specs.FirstTypes.{first_types}
use Rattle.gpu_alloc.specs.Sound.{LiesIn, is_chosen}
use Rattle.gpu_alloc.specs.Spans.{Table}
use Rattle.gpu_alloc.specs.Stores.{type_sizes}
use Rattle.gpu_alloc.specs.declared.allocator.stores.TypeStores.{TypeStores}
use Rattle.gpu_alloc_block.specs.State.{HeldObject, Span, TypeState, State, share, is_shared}

-- a heap as the device offers it
abbrev pub offer_of : Heap → MemoryHeap
offer_of heap = record { size = heap.size }

-- the limit of a heap, in bytes
abbrev pub limit_of : Heap → ℕ
limit_of heap = heap.limit

abbrev pub properties_in : {A : Type 0} → Limits A → List Heap → Properties
properties_in l heaps = record {
  memory_types = l.memory_types.items;
  memory_heaps = map offer_of heaps;
  max_memory_allocation_count = l.max_memory_allocation_count;
  max_memory_allocation_size = l.max_memory_allocation_size;
  non_coherent_atom_size = l.non_coherent_atom_size;
  buffer_device_address = l.buffer_device_address;
}

-- the chunk sizes of each memory type, as each of some stores changes its own
abbrev pub types_with : {X : Type 0} → (X → TypeState → TypeState) → List TypeState → List X → List TypeState
types_with g [] xs = []
types_with g (type ∷ types) [] = []
types_with g (type ∷ types) (x ∷ xs) = g x type ∷ types_with g types xs

abbrev pub state_in : {A M X : Type 0} → Limits A → List Heap → List (TypeStores M X) → Table → ℕ → State
state_in l heaps stores t remaining = record {
  held = t.held;
  live = t.live;
  remaining = remaining;
  heap_limits = map limit_of heaps;
  types = types_with type_sizes (first_types l.config (properties_in l heaps)) stores;
  sharing = l.sharing;
  config = l.config;
  properties = properties_in l heaps;
}

-- The table of held objects and live spans.

abbrev pub IsLiveIn : Table → Span → Type 0
IsLiveIn t span = IsTrue (set.contains t.live span)

-- exactly one span of the object is live, and it lies there as the object's kind says
pub record HasOneSpan (t : Table) (object : ℕ) (h : HeldObject) : Type 0 where
  pub span : Span
  pub live : IsLiveIn t span
  pub of_object : span.object ≡ object
  pub lies : LiesIn h.kind h.counted span
  pub alone : (other : Span) → IsLiveIn t other → other.object ≡ object → other ≡ span

-- an object is held of a known memory type, and where it is not a chunk exactly one span of it is live
pub record IsKnown (t : Table) (p : Properties) (object : ℕ) (h : HeldObject) : Type 0 where
  pub of_type : h.memory_type < length p.memory_types
  pub one_span : is_shared h.kind ≡ false → HasOneSpan t object h

-- a live span is not empty, and is of a held object
pub record IsOfObject (t : Table) (span : Span) : Type 0 where
  pub nonempty : 0 < span.size
  pub object : HeldObject
  pub held : map_of.get t.held span.object ≡ Some object

-- each counted size is less than 2^64
abbrev pub AreSmall : List (ℕ × HeldObject) → Type 0
AreSmall [] = Unit {0}
AreSmall (entry ∷ entries) = (entry.1.counted < 2 ^ 64) × AreSmall entries

-- a heap's running ledger is the sum that it stands for; no more was asked of the heap than it has, and its limit is no
-- higher
pub record IsLedger (p : Properties) (heap : ℕ) (entries : List (ℕ × HeldObject)) (h : Heap) : Type 0 where
  pub used : h.used ≡ sum_by (share p heap) entries
  pub within : sum_by (asked_share p heap) entries ≤ h.size
  pub limited : h.limit ≤ h.size

-- each heap's ledger is
abbrev pub AreLedgers : Properties → List Heap → List (ℕ × HeldObject) → Type 0
AreLedgers p heaps entries = (heap : ℕ) → IfSome (slice_get heaps heap) (IsLedger p heap entries)

-- held chunks are of the kind that was chosen
abbrev pub IsChosen : Sharing → Table → Type 0
IsChosen sharing t = (object : ℕ) (h : HeldObject) → map_of.get t.held object ≡ Some h → is_chosen sharing h.kind ≡ true

-- The table, the heaps and the count.
pub record IsBooked (p : Properties) (heaps : List Heap) (t : Table) (remaining : ℕ) : Type 0 where
  pub usable : IsUsable p
  pub count : remaining + map_of.len t.held < 2 ^ 32
  pub known : (object : ℕ) → IfSome (map_of.get t.held object) (IsKnown t p object)
  pub spans : (span : Span) → IsLiveIn t span → IsOfObject t span
  pub small : AreSmall (map_of.entries t.held)
  pub ledgers : AreLedgers p heaps (map_of.entries t.held)
