-- What the calls of an allocator of shared chunks do, by the rule of its store.
use Rattle.std.specs.Prelude.{◌≡◌, ◌⊎◌, ℕ, ◌+◌, ◌-◌, Bool, true, List, [], ◌∷◌, Option, Some, None, Result, Ok, Err}
use Rattle.std.specs.FinMap as map
use Rattle.std.specs.FinSet as set
use Rattle.gpu_alloc_types.specs.Device.{Event, Object, put}
use Rattle.gpu_alloc_types.specs.Device.Event.{Deallocated}
use Rattle.gpu_alloc_types.specs.Flags.{has_bit, host_visible}
use Rattle.gpu_alloc_types.specs.Properties.{Properties}
use Rattle.gpu_alloc_base.specs.Accounts as accounts
use Rattle.gpu_alloc_base.specs.Accounts.{Account}
use Rattle.gpu_alloc_base.specs.Case.{Case, IsBarred, IsOverBudget}
use Rattle.gpu_alloc_base.specs.Chunks.{Chunk}
use Rattle.gpu_alloc_base.specs.InHand as in_hand
use Rattle.gpu_alloc_base.specs.NewChunk.{ChunkQuestion}
use Rattle.gpu_alloc_base.specs.Wanted.{Wanted}
use Rattle.gpu_alloc_base.specs.declared.error.AllocationError.{AllocationError}
use Rattle.gpu_alloc_base.specs.declared.heap.Heap.{Heap}
use Rattle.gpu_alloc_shared.specs.Rule.{Rule}

module _ {T A B : Type 0} (r : Rule T A B) where
  -- Blocks and chunks.

  abbrev pub object_of : B → ℕ
  object_of b = (r.bytes b).object

  -- one more block is live, and one fewer
  abbrev pub with_block : T → B → T
  with_block t b = r.with_space t (r.chunks t) (set.insert (r.live t) b)

  abbrev pub without_block : T → B → T
  without_block t b = r.with_space t (r.chunks t) (set.remove (r.live t) b)

  -- one chunk fewer
  abbrev pub without_chunk : T → ℕ → T
  without_chunk t key = r.with_space t (map.remove (r.chunks t) key) (r.live t)

  abbrev pub Leaves : T → T → Type 0
  Leaves t new = in_hand.Leaves r.bytes (r.live t) (r.live new)

  abbrev pub Adds : T → T → B → Type 0
  Adds t new b = in_hand.Adds r.bytes (r.live t) (r.live new) b

  abbrev pub Removes : T → B → T → Type 0
  Removes t b new = in_hand.Removes r.bytes (r.live t) b (r.live new)

  -- what a cleanup leaves: the live blocks, and no chunk where there are none
  abbrev pub LeavesNoRest : T → T → Type 0
  LeavesNoRest t new = (r.live new ≡ r.live t) × in_hand.LeavesNoRest (r.live t) (r.chunks new)

  -- nothing is held: so it agrees with every device that offers this memory type
  abbrev pub HoldsNothing : ℕ → ℕ → T → Type 0
  HoldsNothing memory_type props t =
      ((r.served t).memory_type ≡ memory_type) × ((r.served t).props ≡ props)
      × in_hand.HoldsNothing memory_type props (r.live t) (r.chunks t)

  -- The device and its objects.

  abbrev pub sees_chunks : T → Bool
  sees_chunks t = has_bit (r.served t).props host_visible

  -- the device has the memory type with its properties, and holds each chunk
  abbrev pub Agrees : T → Properties → (ℕ → Option Object) → Type 0
  Agrees t p objects = accounts.Agrees (r.served t).memory_type (r.served t).props (r.chunks t) p objects

  -- how a request changes the device's objects
  abbrev pub ObjectsAfter : T → Result B AllocationError → T → (ℕ → Option Object) → (ℕ → Option Object) → Type 0
  ObjectsAfter t answer after old new =
      accounts.ObjectsAfter r.key object_of (r.served t).memory_type (r.served t).props (r.chunks t) answer
      (r.chunks after) old new

  -- A request.

  -- a place is looked for: a block in one, or none there, or no host memory for a block in one
  abbrev pub Takes : {E : Type 0} → T → A → Result (Option B) E → T → Type 0
  Takes t ask (Ok None) new = (r.HasPlace t ask → ⊥) × (new ≡ t)
  Takes t ask (Ok (Some b)) new = r.IsTaken t ask b × (new ≡ with_block t b)
  Takes t ask (Err e) new = r.HasPlace t ask × (new ≡ t)

  abbrev pub question : T → Heap → A → ℕ → ChunkQuestion
  question t heap ask flags = record {
    size = r.chunk_size t heap ask;
    memory_type = (r.served t).memory_type;
    flags = flags;
    mapped = sees_chunks t;
  }

  -- one more chunk is held, with the block in it
  abbrev pub account_in_new_chunk : Account T → A → B → Account T
  account_in_new_chunk a ask b =
      let whole = r.chunk_size a.allocator a.heap ask in
      record {
        allocator = r.in_new_chunk a.allocator ask whole b;
        heap = record a.heap { used = a.heap.used + whole };
        remaining = a.remaining - 1;
      }

  -- a request in the store's own terms
  abbrev pub ask_case : Account T → A → ℕ → Case B (Account T)
  ask_case a ask flags = record {
    before = a;
    Fits = r.Fits ask;
    HasPlace = r.HasPlace a.allocator ask;
    remaining = a.remaining;
    HasNumber = r.HasNumber a.allocator;
    question = question a.allocator a.heap ask flags;
    ledger = a.heap.used;
    limit = a.heap.limit;
    two_handles = true;
    object = object_of;
    IsInPlace = r.IsTaken a.allocator ask;
    with_block = λ b. record a { allocator = with_block a.allocator b };
    IsInNewObject = r.Begins a.allocator ask (r.chunk_size a.allocator a.heap ask);
    with_object = account_in_new_chunk a ask;
  }

  -- a request for what is wanted
  abbrev pub case_of : Account T → Wanted → Case B (Account T)
  case_of a w = ask_case a (r.asked a.allocator w.size w.align_mask) w.flags

  -- A return.

  -- the block is no longer live
  abbrev pub account_without : Account T → B → Account T
  account_without a b = record a { allocator = without_block a.allocator b }

  -- the chunk is released
  abbrev pub ReleasesChunk : Account T → ℕ → List Event → Account T → Type 0
  ReleasesChunk a key es new =
      (chunk : Chunk) × (map.get (r.chunks a.allocator) key ≡ Some chunk)
      × ((es ≡ Deallocated chunk.object ∷ [])
      × (new ≡ record {
        allocator = without_chunk a.allocator key;
        heap = record a.heap { used = a.heap.used - chunk.size };
        remaining = a.remaining + 1;
      }))

  -- A block is returned: its chunk is released with it, or kept.
  abbrev pub Frees : Account T → B → List Event → Account T → Type 0
  Frees a b es new =
      ((r.ReleasedWith a.allocator b → ⊥) × ((es ≡ []) × (new ≡ account_without a b)))
      ⊎ (r.ReleasedWith a.allocator b × ReleasesChunk (account_without a b) (r.key b) es new)

  abbrev pub ObjectsFreed : T → B → (ℕ → Option Object) → (ℕ → Option Object) → Type 0
  ObjectsFreed t b old new =
      ((r.ReleasedWith t b → ⊥) × (new ≡ old)) ⊎ (r.ReleasedWith t b × (new ≡ put old (object_of b) None))

  -- The next chunk is released, if there is one: what the account then is, and what the device then holds.
  abbrev pub ReleasesNext : Account T → Bool → List Event → Account T → (ℕ → Option Object) → (ℕ → Option Object) → Type 0
  ReleasesNext a keep_last es new old_objects new_objects =
      (((key : ℕ) → r.IsNext a.allocator keep_last key → ⊥) × (es ≡ []) × (new ≡ a) × (new_objects ≡ old_objects))
      ⊎ ((key : ℕ) × r.IsNext a.allocator keep_last key × (gone : ReleasesChunk a key es new)
      × (new_objects ≡ put old_objects gone.0.object None))

  -- Steps.

  abbrev pub tried : {E : Type 0} → Result (Option B) E → Option (Option B)
  tried (Ok found) = Some found
  tried (Err e) = None

  -- The steps of a request: of a block in a place, of one that begins a new chunk where there was no place, and of a
  -- refusal: before a search where a chunk would be too large for any device, and otherwise after one that found no
  -- place or lacked host memory.
  abbrev pub Counted : {E : Type 0} → T → A → ℕ → Result B E → ℕ → ℕ → ℕ → ℕ → Type 0
  Counted t ask whole (Ok b) looks now splits after =
      r.Tries t ask (Some (Some b)) looks now splits after
      ⊎ ((between : ℕ) × (r.Tries t ask (Some None) looks now splits between × r.Begun t ask whole between after))
  Counted t ask whole (Err e) looks now splits after =
      ((r.Fits ask → ⊥) × ((now ≡ looks) × (after ≡ splits)))
      ⊎ (r.Tries t ask (Some None) looks now splits after ⊎ r.Tries t ask None looks now splits after)

  -- a place is looked for first where a chunk for the request would be below 2^64 bytes and may not be asked for: no
  -- more objects may be held, no number is left, or the heap's limit leaves too few bytes
  abbrev pub LooksFirst : Account T → A → Type 0
  LooksFirst a ask = r.Fits ask × (IsBarred (ask_case a ask 0) ⊎ IsOverBudget (ask_case a ask 0))

  -- the looks of a test for a refusal: those for a place, and none where no place is looked for
  abbrev pub CountsRefusing : Account T → A → ℕ → ℕ → Type 0
  CountsRefusing a ask looks now =
      (LooksFirst a ask × r.Looks a.allocator ask looks now) ⊎ ((LooksFirst a ask → ⊥) × (now ≡ looks))
