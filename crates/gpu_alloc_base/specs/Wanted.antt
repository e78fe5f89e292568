-- What is asked of an allocator of shared chunks.
use Rattle.std.specs.Prelude.{ℕ}
use Rattle.gpu_alloc_types.specs.Flags.{allocation_bits}
use Rattle.gpu_alloc_types.specs.declared.allocation_flags.AllocationFlags.{AllocationFlags}

-- what is asked of an allocator: some bytes, at a multiple of the alignment, with these flags
pub record Wanted : Type 0 where
  pub size : ℕ
  pub align_mask : ℕ
  pub flags : ℕ

abbrev pub wanted : ℕ → ℕ → ℕ → Wanted
wanted size align_mask flags = record { size = size; align_mask = align_mask; flags = flags }

-- the same, with the flags as a value of their type
abbrev pub requested : ℕ → ℕ → AllocationFlags → Wanted
requested size align_mask flags = wanted size align_mask (allocation_bits flags)
