-- What the calls of a free-list allocator do.
use Rattle.std.specs.Prelude.{◌≡◌, ℕ, ◌+◌, ◌-◌, ◌%◌, ◌<◌, ◌≤◌, ◌↔◌, Bool, true, false, List, []}
use Rattle.std.specs.Prelude.{◌∷◌, length, get_or, sum_by, Option, Some, None, Result}
use Rattle.std.specs.Prelude as list
use Rattle.std.specs.List.{Contains}
use Rattle.std.specs.FinMap as map
use Rattle.std.specs.Ordering.{nat_cmp}
use Rattle.gpu_alloc_types.specs.Properties.{Properties}
use Rattle.gpu_alloc_types.specs.Device.{Asked, Object, Event, put}
use Rattle.gpu_alloc_types.specs.Device.Event.{Deallocated}
use Rattle.gpu_alloc_types.specs.declared.types.FreeRange.{FreeRange}
use Rattle.gpu_alloc_base.specs.Accounts.{Account, account}
use Rattle.gpu_alloc_base.specs.Case.{Case, Answers}
use Rattle.gpu_alloc_base.specs.Wanted.{Wanted}
use Rattle.gpu_alloc_base.specs.Chunks.{Chunk, object_in}
use Rattle.gpu_alloc_base.specs.FreeSpace.{IsIn}
use Rattle.gpu_alloc_freelist.specs.FreeList.{HasPlace, IsTail, HasNumber, MayGo, with_slot, without_slot}
use Rattle.gpu_alloc_freelist.specs.FreeList.{with_numbered_chunk, first_tail, no_list_space}
use Rattle.gpu_alloc_freelist.specs.FreeListRule.{list_rule}
pub use Rattle.gpu_alloc_freelist.specs.FreeListState.{bytes_of}
use Rattle.gpu_alloc_freelist.specs.FreeListState.{ListSpace, FreeListState, IsLiveSlot, IsFreeIn}
use Rattle.gpu_alloc_shared.specs.Shared as shared
pub use Rattle.gpu_alloc_shared.specs.Sized.{KeepsSettings, alignment, chunk_size, next_size, question, rounded, sees_chunks}
use Rattle.gpu_alloc_shared.specs.Sized.{sized_in}
use Rattle.gpu_alloc_base.specs.FreeRuns.{IsFreeRun}
use Rattle.gpu_alloc_base.specs.declared.free_list_block.Slot.{Slot}
use Rattle.gpu_alloc_base.specs.declared.error.AllocationError.{AllocationError}
use Rattle.gpu_alloc_base.specs.declared.heap.Heap.{Heap}

-- one more block is live
abbrev pub listing_with_slot : FreeListState → Slot → FreeListState
listing_with_slot l slot = record l { space = with_slot l.space slot }

-- one more chunk is held, with a block at its tail
abbrev pub in_new_chunk : Account FreeListState → ℕ → ℕ → ℕ → Account FreeListState
in_new_chunk a object size alignment =
    let l = a.allocator in
    let whole = chunk_size l size in
    record {
      allocator = record l {
        space = with_slot (with_numbered_chunk l.space object whole)
            (first_tail l.space object whole size alignment);
        next_chunk = next_size l whole;
      };
      heap = record a.heap { used = a.heap.used + whole };
      remaining = a.remaining - 1;
    }

-- A request for a block of the rounded size. A chunk of the largest size always fits.
abbrev pub list_case : Account FreeListState → ℕ → ℕ → ℕ → Case Slot (Account FreeListState)
list_case a size alignment flags = record {
  before = a;
  Fits = Unit {0};
  HasPlace = HasPlace a.allocator.space size alignment;
  remaining = a.remaining;
  HasNumber = HasNumber a.allocator.space;
  question = question a.allocator size flags;
  ledger = a.heap.used;
  limit = a.heap.limit;
  two_handles = true;
  object = λ slot. slot.object;
  IsInPlace = IsTail a.allocator.space size alignment;
  with_block = λ slot. record a { allocator = listing_with_slot a.allocator slot };
  IsInNewObject = λ slot. slot ≡ first_tail a.allocator.space slot.object (chunk_size a.allocator size) size alignment;
  with_object = λ slot. in_new_chunk a slot.object size alignment;
}

-- a request for what is wanted
abbrev pub case_of : Account FreeListState → Wanted → Case Slot (Account FreeListState)
case_of a w = list_case a (rounded a.allocator w) (alignment a.allocator w) w.flags

abbrev pub Allocates : Account FreeListState → Wanted → List Event → Result Slot AllocationError → Account FreeListState → Type 0
Allocates a w es answer new = Answers (case_of a w) es answer new

-- What a call answers: by the allocator, the heap and how many more objects may be held, before and after the call.
abbrev pub CallAllocates : FreeListState → Heap → ℕ → Wanted → Result Slot AllocationError → FreeListState → Heap → ℕ → List Event
    → Type 0
CallAllocates l heap remaining w answer new new_heap new_remaining es =
    Allocates (account l heap remaining) w es answer (account new new_heap new_remaining)

-- Chunks that are released.

abbrev pub AreRisingNumbers : List ℕ → Type 0
AreRisingNumbers numbers = (i j d : ℕ) → i < j → j < length numbers → get_or numbers i d < get_or numbers j d

-- These chunks are released, in rising number: all that may be.
pub record AreReleased (s : ListSpace) (keep_last : Bool) (gone : List ℕ) : Type 0 where
  pub rising : AreRisingNumbers gone
  pub all : (number : ℕ) → Contains gone number ↔ MayGo s keep_last number

-- the size of the chunk under a number, 0 where no chunk is held there
abbrev pub size_in : Option Chunk → ℕ
size_in None = 0
size_in (Some chunk) = chunk.size

abbrev pub object_of : ListSpace → ℕ → ℕ
object_of s number = object_in (map.get s.chunks number)

abbrev pub size_of_chunk : ListSpace → ℕ → ℕ
size_of_chunk s number = size_in (map.get s.chunks number)

abbrev pub without_numbers : map.FinMap nat_cmp Chunk → List ℕ → map.FinMap nat_cmp Chunk
without_numbers chunks [] = chunks
without_numbers chunks (number ∷ numbers) = without_numbers (map.remove chunks number) numbers

-- their objects are released in this order
abbrev pub Releases : Account FreeListState → List ℕ → List Event → Account FreeListState → Type 0
Releases a gone es new =
    (es ≡ list.map (λ number. Deallocated (object_of a.allocator.space number)) gone)
    × (new ≡ record {
      allocator = record a.allocator
          { space = record a.allocator.space { chunks = without_numbers a.allocator.space.chunks gone } };
      heap = record a.heap { used = a.heap.used - sum_by (size_of_chunk a.allocator.space) gone };
      remaining = a.remaining + length gone;
    })

-- the same for the device's objects
abbrev pub without_objects_of : ListSpace → (ℕ → Option Object) → List ℕ → ℕ → Option Object
without_objects_of s objects [] = objects
without_objects_of s objects (number ∷ numbers) = without_objects_of s (put objects (object_of s number) None) numbers

-- the block is no longer live
abbrev pub account_without : Account FreeListState → Slot → Account FreeListState
account_without = shared.account_without list_rule

-- A block is returned, and then every wholly free chunk is released except that of the last run.
abbrev pub Frees : Account FreeListState → Slot → List Event → Account FreeListState → Type 0
Frees a slot es new =
    (gone : List ℕ)
    × (AreReleased (without_slot a.allocator.space slot) true gone × Releases (account_without a slot) gone es new)

-- every wholly free chunk is released
abbrev pub Cleans : Account FreeListState → List Event → Account FreeListState → Type 0
Cleans a es new = (gone : List ℕ) × (AreReleased a.allocator.space false gone × Releases a gone es new)

-- nothing is held
abbrev pub opened : ℕ → ℕ → ℕ → ℕ → ℕ → FreeListState
opened = sized_in no_list_space

-- What a caller may know of a granted block without following its steps.
pub record IsGranted (old : FreeListState) (w : Wanted) (new : FreeListState) (slot : Slot) : Type 0 where
  pub enough : w.size ≤ slot.size
  pub aligned : slot.offset % (w.align_mask + 1) ≡ 0
  pub whole_atoms : (slot.offset % old.atom ≡ 0) × (slot.size % old.atom ≡ 0)
  pub inside : (chunk : Chunk) × (map.get new.space.chunks slot.chunk ≡ Some chunk)
      × ((slot.object ≡ chunk.object) × (slot.offset + slot.size ≤ chunk.size))
  pub live : IsLiveSlot new.space slot
  pub was_free : (other : Slot) → IsLiveSlot old.space other → other.object ≡ slot.object → (at : ℕ)
      → IsIn other.offset other.size at → IsIn slot.offset slot.size at → ⊥

-- Device and allocator.

-- the device has the memory type with its properties, and holds each chunk
abbrev pub Agrees : FreeListState → Properties → (ℕ → Option Object) → Type 0
Agrees = shared.Agrees list_rule

-- how a request changes the device's objects
abbrev pub ObjectsAfter : FreeListState → Result Slot AllocationError → FreeListState → (ℕ → Option Object) → (ℕ → Option Object)
    → Type 0
ObjectsAfter = shared.ObjectsAfter list_rule

-- how a return changes them: by the chunks that are released with it
abbrev pub ObjectsFreed : FreeListState → Slot → (ℕ → Option Object) → (ℕ → Option Object) → Type 0
ObjectsFreed l slot old new =
    (gone : List ℕ) × (AreReleased (without_slot l.space slot) true gone × (new ≡ without_objects_of l.space old gone))

-- and by those that are released without a return
abbrev pub ObjectsCleaned : FreeListState → (ℕ → Option Object) → (ℕ → Option Object) → Type 0
ObjectsCleaned l old new = (gone : List ℕ) × (AreReleased l.space false gone × (new ≡ without_objects_of l.space old gone))

-- The chunks are released one by one, each the first that may be, until none may be.
abbrev pub LetsWholeChunksGo : Bool → Account FreeListState → List ℕ → List Event → Account FreeListState → (ℕ → Option Object)
    → (ℕ → Option Object) → Type 0
LetsWholeChunksGo keep_last a gone es new old_objects new_objects =
    AreReleased a.allocator.space keep_last gone
    × (Releases a gone es new × (new_objects ≡ without_objects_of a.allocator.space old_objects gone))

-- a call releases them in this way, with the matching calls of the device
abbrev pub CallReleases : {D : Type 0} → (D → Event → D → Type 0) → (D → ℕ → Option Object) → D → D → Bool
    → Account FreeListState → Account FreeListState → Type 0
CallReleases step objects old_device new_device keep_last a new =
    (gone : List ℕ) × Asked step old_device new_device
    (λ es. LetsWholeChunksGo keep_last a gone es new (objects old_device) (objects new_device))

-- What is free.

-- the range is a free run of the chunk of its object
pub record IsRunOf (s : ListSpace) (r : FreeRange) : Type 0 where
  pub number : ℕ
  pub chunk : Chunk
  pub held : map.get s.chunks number ≡ Some chunk
  pub object : chunk.object ≡ r.object
  pub run : IsFreeRun (IsFreeIn s) number r.start r.end

-- Blocks in hand.

-- a call that takes no block keeps each block that was in hand
abbrev pub Leaves : FreeListState → FreeListState → Type 0
Leaves = shared.Leaves list_rule

-- a grant adds its block
abbrev pub Adds : FreeListState → FreeListState → Slot → Type 0
Adds = shared.Adds list_rule

-- a return removes its block, and no other
abbrev pub Removes : FreeListState → Slot → FreeListState → Type 0
Removes = shared.Removes list_rule

-- nothing is held: so it agrees with every device that offers this memory type
abbrev pub HoldsNothing : ℕ → ℕ → FreeListState → Type 0
HoldsNothing = shared.HoldsNothing list_rule

-- what a cleanup leaves: the live blocks, and no chunk where there are none
abbrev pub LeavesNoRest : FreeListState → FreeListState → Type 0
LeavesNoRest = shared.LeavesNoRest list_rule
