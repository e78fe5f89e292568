-- What the calls of a buddy allocator do.
use Rattle.std.specs.Prelude.{◌≡◌, ◌⊎◌, ℕ, ◌+◌, ◌-◌, ◌%◌, ◌≤◌, Bool, true, List, [], ◌∷◌, max, Option, Some, Result}
use Rattle.std.specs.FinMap as map
use Rattle.std.specs.FinSet as set
use Rattle.gpu_alloc_types.specs.Device.{Event, Object}
use Rattle.gpu_alloc_types.specs.Device.Event.{Deallocated}
use Rattle.gpu_alloc_types.specs.Flags.{has_bit, host_visible}
use Rattle.gpu_alloc_types.specs.Properties.{Properties}
use Rattle.gpu_alloc_types.specs.declared.types.FreeRange.{FreeRange}
use Rattle.gpu_alloc_base.specs.Accounts.{Account, account}
use Rattle.gpu_alloc_base.specs.Case.{Answers, Case}
use Rattle.gpu_alloc_base.specs.Chunks.{Chunk}
use Rattle.gpu_alloc_base.specs.FreeSpace.{IsFreePiece, IsIn, IsMultipleOf, IsPowerOfTwo}
use Rattle.gpu_alloc_base.specs.InHand as in_hand
use Rattle.gpu_alloc_base.specs.NewChunk.{ChunkQuestion}
use Rattle.gpu_alloc_base.specs.Wanted.{Wanted}
use Rattle.gpu_alloc_base.specs.declared.buddy_block.Leaf.{Leaf}
use Rattle.gpu_alloc_base.specs.declared.error.AllocationError.{AllocationError}
use Rattle.gpu_alloc_base.specs.declared.heap.Heap.{Heap}
use Rattle.gpu_alloc_buddy.specs.BuddyRule.{buddy_rule}
use Rattle.gpu_alloc_buddy.specs.BuddyState.{Buddy, IsFreeInBuddy, IsLiveBuddyLeaf}
pub use Rattle.gpu_alloc_buddy.specs.BuddyState.{BeginsBuddyChunk, Fits, HasPlace, IsBuddyFront, IsUnusedBuddyChunk, buddy_with_chunk, buddy_with_leaf, buddy_without_leaf, bytes_of, chunk_size, rounded}
use Rattle.gpu_alloc_shared.specs.Shared as shared

-- whether the chunks are host-visible
abbrev pub sees_chunks : Buddy → Bool
sees_chunks b = has_bit b.props host_visible

abbrev pub question : Buddy → ℕ → ℕ → ChunkQuestion
question b size flags =
    record { size = chunk_size b size; memory_type = b.memory_type; flags = flags; mapped = sees_chunks b }

abbrev pub in_new_chunk : Account Buddy → Leaf → ℕ → Account Buddy
in_new_chunk a leaf size = record {
  allocator = buddy_with_leaf (buddy_with_chunk a.allocator leaf size) leaf;
  heap = record a.heap { used = a.heap.used + size };
  remaining = a.remaining - 1;
}

-- A request for a block of the rounded size. Chunks are told apart by keys, and a key is always left.
abbrev pub buddy_case : Account Buddy → ℕ → ℕ → Case Leaf (Account Buddy)
buddy_case a size flags = record {
  before = a;
  Fits = Fits size;
  HasPlace = HasPlace a.allocator size;
  remaining = a.remaining;
  HasNumber = Unit {0};
  question = question a.allocator size flags;
  ledger = a.heap.used;
  limit = a.heap.limit;
  two_handles = true;
  object = λ leaf. leaf.object;
  IsInPlace = IsBuddyFront a.allocator size;
  with_block = λ leaf. record a { allocator = buddy_with_leaf a.allocator leaf };
  IsInNewObject = BeginsBuddyChunk a.allocator size;
  with_object = λ leaf. in_new_chunk a leaf (chunk_size a.allocator size);
}

-- a request for what is wanted
abbrev pub case_of : Account Buddy → Wanted → Case Leaf (Account Buddy)
case_of a w = buddy_case a (rounded a.allocator w) w.flags

abbrev pub Allocates : Account Buddy → Wanted → List Event → Result Leaf AllocationError → Account Buddy → Type 0
Allocates a w es answer new = Answers (case_of a w) es answer new

-- What a call answers: by the allocator, the heap and how many more objects may be held, before and after the call.
abbrev pub CallAllocates : Buddy → Heap → ℕ → Wanted → Result Leaf AllocationError → Buddy → Heap → ℕ → List Event
    → Type 0
CallAllocates b heap remaining w answer new new_heap new_remaining es =
    Allocates (account b heap remaining) w es answer (account new new_heap new_remaining)

-- A block is returned: its chunk is released with it if no other block in it is live, and kept otherwise.
abbrev pub Frees : Account Buddy → Leaf → List Event → Account Buddy → Type 0
Frees a leaf es new =
    ((IsUnusedBuddyChunk (buddy_without_leaf a.allocator leaf) leaf.chunk → ⊥)
    × ((es ≡ []) × (new ≡ record a { allocator = buddy_without_leaf a.allocator leaf })))
    ⊎ (IsUnusedBuddyChunk (buddy_without_leaf a.allocator leaf) leaf.chunk
    × ((chunk : Chunk) × (map.get a.allocator.chunks leaf.chunk ≡ Some chunk)
    × ((es ≡ Deallocated leaf.object ∷ [])
    × (new ≡ record {
      allocator = record (buddy_without_leaf a.allocator leaf) { chunks = map.remove a.allocator.chunks leaf.chunk };
      heap = record a.heap { used = a.heap.used - chunk.size };
      remaining = a.remaining + 1;
    }))))

-- nothing is held
abbrev pub opened : ℕ → ℕ → ℕ → ℕ → ℕ → Buddy
opened minimal initial memory_type props atom = record {
  chunks = map.empty;
  live = set.empty;
  next_chunk = max initial minimal;
  minimal = minimal;
  memory_type = memory_type;
  props = props;
  atom = atom;
}

-- What a caller may know of a granted block without following its steps.
pub record IsGranted (old : Buddy) (w : Wanted) (new : Buddy) (leaf : Leaf) : Type 0 where
  pub enough : w.size ≤ leaf.size
  pub aligned : leaf.offset % (w.align_mask + 1) ≡ 0
  pub whole_atoms : (leaf.offset % old.atom ≡ 0) × (leaf.size % old.atom ≡ 0)
  pub power : IsPowerOfTwo leaf.size
  pub front : IsMultipleOf leaf.size leaf.offset
  pub inside : (chunk : Chunk) × (map.get new.chunks leaf.chunk ≡ Some chunk)
      × ((leaf.object ≡ chunk.object) × (leaf.offset + leaf.size ≤ chunk.size))
  pub live : IsLiveBuddyLeaf new leaf
  pub was_free : (other : Leaf) → IsLiveBuddyLeaf old other → other.object ≡ leaf.object → (at : ℕ)
      → IsIn other.offset other.size at → IsIn leaf.offset leaf.size at → ⊥

-- Device and allocator.

-- the device has the memory type with its properties, and holds each chunk
abbrev pub Agrees : Buddy → Properties → (ℕ → Option Object) → Type 0
Agrees = shared.Agrees buddy_rule

-- how a request changes the device's objects
abbrev pub ObjectsAfter : Buddy → Result Leaf AllocationError → Buddy → (ℕ → Option Object) → (ℕ → Option Object)
    → Type 0
ObjectsAfter = shared.ObjectsAfter buddy_rule

-- how a return changes them: the block's chunk is released with its last block
abbrev pub ObjectsFreed : Buddy → Leaf → (ℕ → Option Object) → (ℕ → Option Object) → Type 0
ObjectsFreed = shared.ObjectsFreed buddy_rule

-- What is free.

-- the range is a free piece of the chunk of its object
pub record IsPieceOf (b : Buddy) (r : FreeRange) : Type 0 where
  pub key : ℕ
  pub chunk : Chunk
  pub held : map.get b.chunks key ≡ Some chunk
  pub object : chunk.object ≡ r.object
  pub length : ℕ
  pub end : r.end ≡ r.start + length
  pub piece : IsFreePiece (IsFreeInBuddy b) key r.start length

-- Blocks in hand.

-- a call that takes no block keeps each block that was in hand
abbrev pub Leaves : Buddy → Buddy → Type 0
Leaves = shared.Leaves buddy_rule

-- a grant adds its block
abbrev pub Adds : Buddy → Buddy → Leaf → Type 0
Adds = shared.Adds buddy_rule

-- a return removes its block, and no other
abbrev pub Removes : Buddy → Leaf → Buddy → Type 0
Removes = shared.Removes buddy_rule

-- nothing is held: so it agrees with every device that offers this memory type
abbrev pub HoldsNothing : ℕ → ℕ → Buddy → Type 0
HoldsNothing = shared.HoldsNothing buddy_rule

-- where no block is live, no chunk is held
abbrev pub LeavesNoRest : Buddy → Type 0
LeavesNoRest b = in_hand.LeavesNoRest b.live b.chunks
