-- What a report of an allocator contains.
use Rattle.std.specs.Prelude.{◌≡◌, ℕ, ◌<◌, Bool, true, false, List, length, map, All, Contains, Some, slice_get, nat_lt, sum}
use Rattle.std.specs.FinMap as finite
use Rattle.std.specs.List.{filter, flat_map}
use Rattle.gpu_alloc_types.specs.declared.types.FreeRange.{FreeRange}
use Rattle.gpu_alloc.specs.Budget.{heap_bytes, heap_budget}
use Rattle.gpu_alloc.specs.State.{HeldObject, State, heap_limit, ledger}
use Rattle.gpu_report.specs.Free.{AreFreeRanges, free_sizes, largest, scattered}
use Rattle.gpu_report.specs.Held.{AreHeld, part_of, kind_of, parts, held_as}
use Rattle.gpu_report.specs.Live.{AreLive, asked_sizes, live_sizes}
use Rattle.gpu_report.specs.Places.{ArePlaces, Tile}
use Rattle.gpu_report.specs.declared.part.Part.{Part}
use Rattle.gpu_report.specs.declared.live.LiveBlock.{LiveBlock}
use Rattle.gpu_report.specs.declared.report.HeapReport.{HeapReport}
use Rattle.gpu_report.specs.declared.report.KindReport.{KindReport}
use Rattle.gpu_report.specs.declared.report.ObjectKind.{ObjectKind}
use Rattle.gpu_report.specs.declared.report.ObjectKind.TheVariants.{Dedicated, Imported, BuddyChunk, FreeListChunk, FitChunk}
use Rattle.gpu_report.specs.declared.report.ObjectReport.{ObjectReport}
use Rattle.gpu_report.specs.declared.report.Report.{Report}

-- a heap's size, its limit, its ledger and its budget
abbrev pub heap_told : State → ℕ → HeapReport
heap_told s heap = record {
  size = heap_bytes s.properties heap;
  limit = heap_limit s heap;
  used = ledger s heap;
  budget = heap_budget s heap;
}

-- each heap by index
pub record AreHeaps (s : State) (heaps : List HeapReport) : Type 0 where
  pub count : length heaps ≡ length s.properties.memory_heaps
  pub each : (heap : ℕ) → heap < length heaps → slice_get heaps heap ≡ Some (heap_told s heap)

-- a held object's name, memory type, kind and counted size
pub record Head : Type 0 where
  pub object : ℕ
  pub memory_type : ℕ
  pub kind : ObjectKind
  pub size : ℕ

abbrev pub head_held : ℕ × HeldObject → Head
head_held e = record { object = e.0; memory_type = e.1.memory_type; kind = kind_of e.1.kind; size = e.1.counted }

abbrev pub head_told : ObjectReport → Head
head_told o = record { object = o.object; memory_type = o.memory_type; kind = o.kind; size = o.size }

-- whether many blocks may lie in an object of the kind
abbrev pub is_chunk : ObjectKind → Bool
is_chunk Dedicated = false
is_chunk Imported = false
is_chunk BuddyChunk = true
is_chunk FreeListChunk = true
is_chunk FitChunk = true

-- its places are those of the object, each once and in order
abbrev pub HasPlaces : List LiveBlock → List FreeRange → ObjectReport → Type 0
HasPlaces live free o = ArePlaces live free o.object o.places.items

-- An object's live blocks and free ranges, each once and in order. In a shared object they cover it: the first begins
-- at 0, each begins where the one before it ends, and the last ends with the object.
pub record IsObjectTold (s : State) (live : List LiveBlock) (o : ObjectReport) : Type 0 where
  pub free : List FreeRange
  pub are_free : AreFreeRanges s o.memory_type free
  pub places : HasPlaces live free o
  pub tiled : is_chunk o.kind ≡ true → Tile 0 o.size o.places.items

-- The held objects of a memory type and a kind: how many there are, the sums of the sizes of the live blocks in them,
-- of the bytes requested for these, and of the free ranges. All are 0 where no object is held so.
pub record AreSums (s : State) (held : List (ℕ × HeldObject)) (live : List LiveBlock) (k : KindReport) : Type 0 where
  pub free : List FreeRange
  pub are_free : AreFreeRanges s k.memory_type free
  pub objects : k.objects ≡ length (held_as held (part_of k.memory_type k.kind))
  pub live_blocks : k.live_blocks ≡ length (live_sizes held (part_of k.memory_type k.kind) live)
  pub live_bytes : k.live_bytes ≡ sum (live_sizes held (part_of k.memory_type k.kind) live)
  pub asked_bytes : k.asked_bytes ≡ sum (asked_sizes held (part_of k.memory_type k.kind) live)
  pub free_bytes : k.free_bytes ≡ sum (free_sizes held (part_of k.memory_type k.kind) free)
  pub largest_free : k.largest_free ≡ largest (free_sizes held (part_of k.memory_type k.kind) free)
  pub scattered : k.scattered ≡ scattered (free_sizes held (part_of k.memory_type k.kind) free)

-- the same for a memory type and a kind of which an object is held
pub record IsKindTold (s : State) (held : List (ℕ × HeldObject)) (live : List LiveBlock) (k : KindReport) : Type 0 where
  pub sums : AreSums s held live k
  pub some : 0 < k.objects

-- an object is held as this
abbrev pub is_used : List (ℕ × HeldObject) → Part → Bool
is_used held p = nat_lt 0 (length (held_as held p))

abbrev pub part_told : KindReport → Part
part_told k = part_of k.memory_type k.kind

-- The reports of these memory types and kinds: each object that is held so, in their order and by name, and each memory
-- type and kind of which one is held.
pub record ArePartsTold (s : State) (held : List (ℕ × HeldObject)) (live : List LiveBlock) (ps : List Part)
    (ks : List KindReport) (os : List ObjectReport) : Type 0 where
  pub heads : map head_told os ≡ map head_held (flat_map (held_as held) ps)
  pub objects : All (IsObjectTold s live) os
  pub rows : map part_told ks ≡ filter (is_used held) ps
  pub kinds : All (IsKindTold s held live) ks

-- each held object is reported
abbrev pub TellsEach : State → List ObjectReport → Type 0
TellsEach s os = (object : ℕ) (h : HeldObject) → finite.get s.held object ≡ Some h
    → Contains (map head_told os) (head_held (object, h))

-- What a report contains: the heaps, and for each memory type and kind its objects. `held` are the held objects, and
-- `live` the live blocks, with names from the given blocks.
pub record IsReport (s : State) (blocks : List LiveBlock) (r : Report) : Type 0 where
  pub held : List (ℕ × HeldObject)
  pub are_held : AreHeld s held
  pub live : List LiveBlock
  pub are_live : AreLive s live
  pub given : All (Contains blocks) live
  pub heaps : AreHeaps s r.heaps.items
  pub told : ArePartsTold s held live (parts (length s.properties.memory_types)) r.kinds.items r.objects.items
  pub each : TellsEach s r.objects.items
