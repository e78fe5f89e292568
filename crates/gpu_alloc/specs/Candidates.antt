-- A request to a candidate, in terms of the whole allocator's state, by the way in which the candidate is served.
use Rattle.std.specs.Prelude.{◌≡◌, ℕ, ◌+◌, ◌-◌, true, false, None}
use Rattle.std.specs.FinMap as map
use Rattle.std.specs.FinSet as set
use Rattle.gpu_alloc_base.specs.Case.{Case}
use Rattle.gpu_alloc_base.specs.NewChunk.{ChunkQuestion, flags_of}
use Rattle.gpu_alloc_buddy.specs.Buddy.{Fits}
use Rattle.gpu_alloc.specs.BuddySharing.{buddy_size, buddy_question, buddy_block, object_front, HasBuddyPlace, IsPieceFront}
use Rattle.gpu_alloc.specs.BuddySharing.{with_span, with_buddy_chunk}
use Rattle.gpu_alloc.specs.FitSharing.{fit_alignment, fit_block, fit_question, fit_size, with_fit_chunk}
use Rattle.gpu_alloc.specs.FitSharing.{HasFitPlace, IsInFreeRun}
use Rattle.gpu_alloc.specs.FreeListSharing.{list_size, list_alignment, list_question, list_block, tail_of}
use Rattle.gpu_alloc.specs.FreeListSharing.{latest_number, HasListNumber, HasListPlace, IsRunTail, with_list_chunk}
use Rattle.gpu_alloc_types.specs.Properties.{heap_at}
use Rattle.gpu_alloc_block.specs.State.{HeldObject, Block, State, granted_block, heap_limit, ledger, span_of}
use Rattle.gpu_alloc.specs.declared.allocator.Strategy.{Strategy}
use Rattle.gpu_alloc.specs.declared.allocator.Strategy.TheVariants.{OwnObject, InBuddyChunk, InFreeList, InFitChunk}
use Rattle.gpu_alloc_block.specs.declared.block.Kind.TheVariants.{Dedicated as DedicatedObject}
use Rattle.gpu_alloc.specs.declared.request.Request.{Request}

-- An object of the request's own.

-- exactly the request's size is asked for, and nothing of it is mapped
abbrev pub own_question : State → ℕ → ℕ → ChunkQuestion
own_question s size t = record { size = size; memory_type = t; flags = flags_of s.properties; mapped = false }

-- an unmapped block that is the whole of an object of its own
abbrev pub whole_block : State → ℕ → ℕ → ℕ → Block
whole_block s object size t = granted_block s t DedicatedObject (object_front object size)

-- one more object is held, with the block in it
abbrev pub holding : State → HeldObject → Block → State
holding s h b = record s {
  held = map.insert s.held b.object h;
  live = set.insert s.live (span_of b);
  remaining = s.remaining - 1;
}

-- the block is this one, and no object of that name was held
pub record IsNewBlock (s : State) (b made : Block) : Type 0 where
  pub is : b ≡ made
  pub was_free : map.get s.held b.object ≡ None

-- there is never a place, and any request fits
abbrev pub own_candidate : State → ℕ → ℕ → Case Block State
own_candidate s size t = record {
  before = s;
  Fits = Unit {0};
  HasPlace = ⊥;
  remaining = s.remaining;
  HasNumber = Unit {0};
  question = own_question s size t;
  ledger = ledger s (heap_at s.properties t);
  limit = heap_limit s (heap_at s.properties t);
  two_handles = false;
  object = λ b. b.object;
  IsInPlace = λ b. ⊥;
  with_block = λ b. with_span s (span_of b);
  IsInNewObject = λ b. IsNewBlock s b (whole_block s b.object size t);
  with_object = λ b. holding s (record { memory_type = t; counted = size; kind = DedicatedObject }) b;
}

-- A block of a shared chunk.

-- the block is in a buddy chunk, and the front of a piece
pub record IsFrontBlock (s : State) (t size : ℕ) (b : Block) : Type 0 where
  pub is : b ≡ buddy_block s t (span_of b)
  pub front : IsPieceFront s t size (span_of b)

abbrev pub buddy_candidate : State → ℕ → ℕ → Case Block State
buddy_candidate s size t = record {
  before = s;
  Fits = Fits size;
  HasPlace = HasBuddyPlace s t size;
  remaining = s.remaining;
  HasNumber = Unit {0};
  question = buddy_question s t size;
  ledger = ledger s (heap_at s.properties t);
  limit = heap_limit s (heap_at s.properties t);
  two_handles = true;
  object = λ b. b.object;
  IsInPlace = IsFrontBlock s t size;
  with_block = λ b. with_span s (span_of b);
  IsInNewObject = λ b. IsNewBlock s b (buddy_block s t (object_front b.object size));
  with_object = λ b. with_span (with_buddy_chunk s t b.object (buddy_question s t size).size) (span_of b);
}

-- the block is in a free-list chunk, and the tail of a run
pub record IsTailBlock (s : State) (t size alignment : ℕ) (b : Block) : Type 0 where
  pub number : ℕ
  pub is : b ≡ list_block s t number (span_of b)
  pub tail : IsRunTail s t size alignment number (span_of b)

abbrev pub list_candidate : State → ℕ → ℕ → ℕ → Case Block State
list_candidate s size alignment t = record {
  before = s;
  Fits = Unit {0};
  HasPlace = HasListPlace s t size alignment;
  remaining = s.remaining;
  HasNumber = HasListNumber s t;
  question = list_question s t size;
  ledger = ledger s (heap_at s.properties t);
  limit = heap_limit s (heap_at s.properties t);
  two_handles = true;
  object = λ b. b.object;
  IsInPlace = IsTailBlock s t size alignment;
  with_block = λ b. with_span s (span_of b);
  IsInNewObject = λ b. IsNewBlock s b
      (list_block s t (latest_number s t + 1) (tail_of b.object (list_question s t size).size size alignment));
  with_object = λ b. with_span (with_list_chunk s t b.object (list_question s t size).size) (span_of b);
}

-- the block is in a fit chunk, exactly as long as asked, in a run with room
pub record IsFitBlock (s : State) (t size alignment : ℕ) (b : Block) : Type 0 where
  pub is : b ≡ fit_block s t (span_of b)
  pub fitting : IsInFreeRun s t size alignment (span_of b)

abbrev pub fit_candidate : State → ℕ → ℕ → ℕ → Case Block State
fit_candidate s size alignment t = record {
  before = s;
  Fits = Unit {0};
  HasPlace = HasFitPlace s t size alignment;
  remaining = s.remaining;
  HasNumber = Unit {0};
  question = fit_question s t size;
  ledger = ledger s (heap_at s.properties t);
  limit = heap_limit s (heap_at s.properties t);
  two_handles = true;
  object = λ b. b.object;
  IsInPlace = IsFitBlock s t size alignment;
  with_block = λ b. with_span s (span_of b);
  IsInNewObject = λ b. IsNewBlock s b (fit_block s t (object_front b.object size));
  with_object = λ b. with_span (with_fit_chunk s t b.object (fit_question s t size).size) (span_of b);
}

-- a request to a candidate that is served in this way
abbrev pub candidate : Strategy → State → Request → ℕ → Case Block State
candidate OwnObject s r t = own_candidate s r.size t
candidate InBuddyChunk s r t = buddy_candidate s (buddy_size s r t) t
candidate InFreeList s r t = list_candidate s (list_size s r t) (list_alignment s r t) t
candidate InFitChunk s r t = fit_candidate s (fit_size s r t) (fit_alignment s r t) t
