-- Flags as numbers.
use Rattle.std.specs.Prelude.{ℕ, ◌-◌, ◌==◌, Bool, not, bit_and}
use Rattle.gpu_alloc_types.specs.declared.usage_flags.UsageFlags.{UsageFlags}
use Rattle.gpu_alloc_types.specs.declared.memory_property_flags.MemoryPropertyFlags.{MemoryPropertyFlags}
use Rattle.gpu_alloc_types.specs.declared.allocation_flags.AllocationFlags.{AllocationFlags}

-- the number whose bits are the flags
abbrev pub usage_bits : UsageFlags → ℕ
usage_bits flags = flags.bits

abbrev pub property_bits : MemoryPropertyFlags → ℕ
property_bits flags = flags.bits

abbrev pub allocation_bits : AllocationFlags → ℕ
allocation_bits flags = flags.bits

-- the named bits of usages: the six lowest
abbrev pub named_usage_bits : ℕ
named_usage_bits = 63

-- the named bits of properties: the six lowest
abbrev pub named_property_bits : ℕ
named_property_bits = 63

-- the named bits of allocation flags: the lowest only
abbrev pub named_allocation_bits : ℕ
named_allocation_bits = 1

-- Each flag's number, under the name of the constant in the code. Sets of flags are sums.

-- of UsageFlags
abbrev pub fast_device_access : ℕ
fast_device_access = 1

abbrev pub host_access : ℕ
host_access = 2

abbrev pub download : ℕ
download = 4

abbrev pub upload : ℕ
upload = 8

abbrev pub transient : ℕ
transient = 16

abbrev pub device_address : ℕ
device_address = 32

-- of MemoryPropertyFlags
abbrev pub device_local : ℕ
device_local = 1

abbrev pub host_visible : ℕ
host_visible = 2

abbrev pub host_coherent : ℕ
host_coherent = 4

abbrev pub host_cached : ℕ
host_cached = 8

abbrev pub lazily_allocated : ℕ
lazily_allocated = 16

abbrev pub protected : ℕ
protected = 32

-- DEVICE_ADDRESS of AllocationFlags
abbrev pub with_device_address : ℕ
with_device_address = 1

-- whether a number has any bit of a mask
abbrev pub has_bit : ℕ → ℕ → Bool
has_bit bits mask = not (bit_and bits mask == 0)

-- whether a number has every bit of a mask
abbrev pub has_all_bits : ℕ → ℕ → Bool
has_all_bits bits mask = bit_and bits mask == mask

-- the bits of a number without those of a mask, both of eight bits
abbrev pub bits_without : ℕ → ℕ → ℕ
bits_without bits mask = bit_and bits (255 - mask)
