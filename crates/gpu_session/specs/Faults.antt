-- The first condition that a command misses.
use Rattle.std.specs.Prelude.{ℕ, ◌+◌, ◌%◌, ◌^◌, ◌==◌, ◌&&◌, ◌||◌, Bool, true, false, not, cond, length, Option, Some}
use Rattle.std.specs.Prelude.{None, is_some, nat_lt, nat_le}
use Rattle.std.specs.Int.{is_power_of_two}
use Rattle.std.specs.FinMap as map
use Rattle.gpu_alloc_types.specs.Flags.{usage_bits, has_bit, device_address}
use Rattle.gpu_alloc_types.specs.Properties.{Properties, is_non_coherent}
use Rattle.gpu_alloc.specs.State.{Block, State}
use Rattle.gpu_alloc.specs.Types.Mapping.{Mapping}
use Rattle.gpu_alloc.specs.declared.request.Request.{Request}
use Rattle.gpu_session.specs.Books.{Books}
use Rattle.gpu_session.specs.declared.command.Command.{Command}
use Rattle.gpu_session.specs.declared.command.Command.TheVariants.{Alloc, Dedicated, Import, Free, Map, Unmap, Write}
use Rattle.gpu_session.specs.declared.command.Command.TheVariants.{Read, Put, Get, SetRemaining, Cleanup, FreeRanges}
use Rattle.gpu_session.specs.declared.command.Command.TheVariants.{Counts}
use Rattle.gpu_session.specs.declared.command.Fault.{Fault}
use Rattle.gpu_session.specs.declared.command.Fault.TheVariants.{NameInUse, UnknownName, BadSize, BadAlignment}
use Rattle.gpu_session.specs.declared.command.Fault.TheVariants.{NoDeviceAddress, BadRange, BadType, NoRemaining}
use Rattle.gpu_session.specs.declared.command.Fault.TheVariants.{TooManyRemaining, BadImportEnd, NotMapped}

-- a fault where a test holds, and otherwise what comes next
abbrev pub where_true : Bool → Fault → Option Fault → Option Fault
where_true test fault next = cond test (Some fault) next

-- the name must have no block
abbrev pub fault_of_new_name : Option Block → Option Fault → Option Fault
fault_of_new_name block next = where_true (is_some block) NameInUse next

-- an alignment: a power of two of at most 2^63
abbrev pub is_alignment : ℕ → Bool
is_alignment n = is_power_of_two n && nat_le n (2 ^ 63)

abbrev pub fault_of_request : Bool → Request → Option Fault
fault_of_request address r =
    where_true (r.size == 0) BadSize (
    where_true (not (is_alignment (r.align_mask + 1))) BadAlignment (
    where_true (has_bit (usage_bits r.usage) device_address && not address) NoDeviceAddress None))

-- there must be such a memory type
abbrev pub fault_of_type : Properties → ℕ → Option Fault → Option Fault
fault_of_type p t next = where_true (nat_le (length p.memory_types) t) BadType next

-- the range must end inside `size` bytes
abbrev pub fault_of_range : (offset len size : ℕ) → Option Fault → Option Fault
fault_of_range offset len size next = where_true (nat_lt size (offset + len)) BadRange next

-- where an import of non-coherent memory may not end: neither on the atom nor at its object's end
abbrev pub is_bad_end : Properties → (memory_type object_size end : ℕ) → Bool
is_bad_end p t object_size end =
    is_non_coherent p t && not (end % p.non_coherent_atom_size == 0) && not (end == object_size)

abbrev pub fault_of_import : State → (memory_type object_size offset size : ℕ) → Option Fault
fault_of_import s t object_size offset size =
    fault_of_type s.properties t (
    where_true (object_size == 0 || size == 0) BadSize (
    fault_of_range offset size object_size (
    where_true (is_bad_end s.properties t object_size (offset + size)) BadImportEnd (
    where_true (s.remaining == 0) NoRemaining None))))

-- the name must have a block, and then more conditions follow
abbrev pub fault_of_block : Option Block → (Block → Option Fault) → Option Fault
fault_of_block None more = Some UnknownName
fault_of_block (Some b) more = more b

-- the block must be mapped, and the range inside the mapping
abbrev pub fault_of_mapping : Option Mapping → (offset len : ℕ) → Option Fault
fault_of_mapping None offset len = Some NotMapped
fault_of_mapping (Some m) offset len = fault_of_range offset len m.len None

abbrev pub first_fault : {A : Type 0} → Books → Command A → Option Fault
first_fault s (Alloc name request) =
    fault_of_new_name (map.get s.blocks name) (fault_of_request (s.allocator.properties).buffer_device_address request)
first_fault s (Dedicated name request dedicated) =
    fault_of_new_name (map.get s.blocks name) (fault_of_request (s.allocator.properties).buffer_device_address request)
first_fault s (Import name t object_size offset size) =
    fault_of_new_name (map.get s.blocks name) (fault_of_import s.allocator t object_size offset size)
first_fault s (Free name) = fault_of_block (map.get s.blocks name) (λ b. None)
first_fault s (Map name offset size) =
    fault_of_block (map.get s.blocks name) (λ b. where_true (size == 0) BadSize (fault_of_range offset size b.size None))
first_fault s (Unmap name) = fault_of_block (map.get s.blocks name) (λ b. None)
first_fault s (Write name offset bytes) =
    fault_of_block (map.get s.blocks name) (λ b. fault_of_range offset (length bytes) b.size None)
first_fault s (Read name offset len) =
    fault_of_block (map.get s.blocks name) (λ b. fault_of_range offset len b.size None)
first_fault s (Put name offset bytes) =
    fault_of_block (map.get s.blocks name) (λ b. fault_of_mapping b.mapping offset (length bytes))
first_fault s (Get name offset len) =
    fault_of_block (map.get s.blocks name) (λ b. fault_of_mapping b.mapping offset len)
first_fault s (SetRemaining remaining) =
    where_true (nat_le (2 ^ 32) (remaining + map.len (s.allocator).held)) TooManyRemaining None
first_fault s Cleanup = None
first_fault s (FreeRanges t) = fault_of_type s.allocator.properties t None
first_fault s Counts = None

-- these commands may be answered by want of host memory
abbrev pub may_want_memory : {A : Type 0} → Command A → Bool
may_want_memory (Alloc name request) = true
may_want_memory (Dedicated name request dedicated) = true
may_want_memory (Import name t object_size offset size) = true
may_want_memory (Free name) = false
may_want_memory (Map name offset size) = false
may_want_memory (Unmap name) = false
may_want_memory (Write name offset bytes) = false
may_want_memory (Read name offset len) = true
may_want_memory (Put name offset bytes) = false
may_want_memory (Get name offset len) = true
may_want_memory (SetRemaining remaining) = false
may_want_memory Cleanup = false
may_want_memory (FreeRanges t) = true
may_want_memory Counts = true
