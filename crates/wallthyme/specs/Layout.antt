-- What the structs of C mean.
use Rattle.std.specs.Prelude.{◌+◌, ◌-◌, ◌*◌, ◌^◌, ◌==◌, ◌&&◌, ℕ, Bool, not, nat_lt, List, map, Option, Some, None, bit_and, if◌then◌else◌}
use Rattle.gpu_alloc_base.specs.declared.config.Config as desk_config
use Rattle.gpu_alloc_types.specs.Flags.{has_bit, named_property_bits}
use Rattle.gpu_alloc_types.specs.Properties.{Properties}
use Rattle.gpu_alloc_types.specs.declared.types.FreeRange.{FreeRange}
use Rattle.gpu_alloc_types.specs.declared.types.MemoryHeap.{MemoryHeap}
use Rattle.gpu_alloc_types.specs.declared.types.MemoryType as desk_type
use Rattle.gpu_answers.specs.declared.question.Answer.{Answer}
use Rattle.gpu_answers.specs.declared.question.Answer.TheVariants.{Granted, OutOfDeviceMemory, OutOfHostMemory, MapFailed}
use Rattle.gpu_answers.specs.declared.question.Answered.{Answered}
use Rattle.gpu_answers.specs.declared.question.Question as desk_question
use Rattle.gpu_answers.specs.declared.question.Question.TheVariants.{Allocate, MapMade, Map}
use Rattle.gpu_alloc_block.specs.declared.sharing.Sharing.{Sharing}
use Rattle.gpu_alloc_block.specs.declared.sharing.Sharing.TheVariants.{Buddy, Fit}
use Rattle.gpu_alloc.specs.declared.request.Dedicated.{Dedicated}
use Rattle.gpu_alloc.specs.declared.request.Dedicated.TheVariants.{Required, Preferred}
use Rattle.gpu_alloc.specs.declared.request.Request as desk_request
use Rattle.gpu_desk.specs.declared.answers.Counts as desk_counts
use Rattle.gpu_desk.specs.declared.answers.Grant.{Grant}
use Rattle.gpu_desk.specs.declared.answers.HeapCounts as desk_heap
use Rattle.gpu_desk.specs.declared.answers.ObjectRange.{ObjectRange}
use Rattle.gpu_desk.specs.declared.wish.Wish.{Wish}
use Rattle.wallthyme.specs.declared.layout.TheConstants as number
use Rattle.wallthyme.specs.declared.layout.Block.{Block}
use Rattle.wallthyme.specs.declared.layout.Config.{Config}
use Rattle.wallthyme.specs.declared.layout.Counts.{Counts}
use Rattle.wallthyme.specs.declared.layout.HeapCounts.{HeapCounts}
use Rattle.wallthyme.specs.declared.layout.Limits.{Limits}
use Rattle.wallthyme.specs.declared.layout.MemoryType.{MemoryType}
use Rattle.wallthyme.specs.declared.layout.Question.{Question}
use Rattle.wallthyme.specs.declared.layout.Range.{Range}
use Rattle.wallthyme.specs.declared.layout.Request.{Request}

-- What C passes in.

-- a memory type, without its unnamed property bits
abbrev pub memory_type_of : MemoryType → desk_type.MemoryType
memory_type_of t = record { heap = t.heap; props = record { bits = bit_and t.props named_property_bits } }

abbrev pub heap_of_size : ℕ → MemoryHeap
heap_of_size size = record { size = size }

abbrev pub properties_from : List MemoryType → List ℕ → Limits → Properties
properties_from types heap_sizes limits = record {
  memory_types = map memory_type_of types;
  memory_heaps = map heap_of_size heap_sizes;
  max_memory_allocation_count = limits.max_memory_allocation_count;
  max_memory_allocation_size = limits.max_memory_allocation_size;
  non_coherent_atom_size = limits.non_coherent_atom_size;
  buffer_device_address = not (limits.buffer_device_address == 0);
}

abbrev pub config_of : Config → desk_config.Config
config_of c = record {
  dedicated_threshold = c.dedicated_threshold;
  preferred_dedicated_threshold = c.preferred_dedicated_threshold;
  transient_dedicated_threshold = c.transient_dedicated_threshold;
  starting_free_list_chunk = c.starting_free_list_chunk;
  final_free_list_chunk = c.final_free_list_chunk;
  minimal_buddy_size = c.minimal_buddy_size;
  initial_buddy_dedicated_size = c.initial_buddy_dedicated_size;
}

-- how requests share objects; any other number is refused
abbrev pub sharing_of : ℕ → Sharing
sharing_of n = if n == number.BUDDY then Buddy else Fit

abbrev pub request_of : Request → desk_request.Request
request_of r = record {
  size = r.size;
  align_mask = r.align_mask;
  usage = record { bits = r.usage };
  memory_types = r.memory_types;
}

-- a hint; any other number is refused
abbrev pub hint_of : ℕ → Option Dedicated
hint_of n = if n == number.SHARED then None else (if n == number.PREFERRED then Some Preferred else Some Required)

-- a request's wish, where its flags are valid; any others are refused
abbrev pub wish_of : Request → Wish
wish_of r = record { dedicated = hint_of r.dedicated; optimal = has_bit r.flags number.OPTIMAL; user = r.user }

-- it may be served only from what is held
abbrev pub is_held_only : Request → Bool
is_held_only r = has_bit r.flags number.HELD_ONLY

-- the desk's flags among those of a question to make an object
abbrev pub desk_flags_of : Question → ℕ
desk_flags_of q = if nat_lt q.flags number.ALLOCATE_OWN then q.flags else q.flags - number.ALLOCATE_OWN

-- the question is for an object that will hold only the request's block
abbrev pub asks_own_object : Question → Bool
asks_own_object q = q.kind == number.ALLOCATE && not (nat_lt q.flags number.ALLOCATE_OWN)

-- a question; any other kind is refused
abbrev pub question_of : Question → desk_question.Question
question_of q =
    if q.kind == number.ALLOCATE then Allocate q.size q.memory_type (desk_flags_of q)
    else (if q.kind == number.MAP_MADE then MapMade q.offset q.size else Map q.object q.offset q.size)

-- an answer; any other number is refused
abbrev pub answer_of : ℕ → Answer
answer_of n =
    if n == number.GRANTED then Granted
    else (if n == number.NO_DEVICE_MEMORY then OutOfDeviceMemory
    else (if n == number.NO_HOST_MEMORY then OutOfHostMemory else MapFailed))

abbrev pub answered_of : Question → Answered
answered_of q = record { question = question_of q; answer = answer_of q.answer }

-- What C gets back.

abbrev pub grant_of : Block → Grant
grant_of b = record {
  key = b.key;
  object = b.object;
  offset = b.offset;
  size = b.size;
  memory_type = b.memory_type;
  fresh = b.fresh == 1;
  user = b.user;
  asked = b.asked;
  optimal = b.flags == number.OPTIMAL;
}

abbrev pub object_range_of : Range → ObjectRange
object_range_of r = record { object = r.object; offset = r.offset; size = r.size }

-- a free range, as C gets it
abbrev pub free_range_of : FreeRange → Range
free_range_of r = record { object = r.object; offset = r.start; size = r.end - r.start }

abbrev pub counts_of : Counts → desk_counts.Counts
counts_of c = record { blocks = c.blocks; unread = c.unread; held = c.held; remaining = c.remaining }

abbrev pub heap_counts_of : HeapCounts → desk_heap.HeapCounts
heap_counts_of c = record { used = c.used + 2 ^ 64 * c.used_high; budget = c.budget; limit = c.limit }
