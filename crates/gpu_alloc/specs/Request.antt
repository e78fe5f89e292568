-- What may be asked of an allocator.
use Rattle.std.specs.Prelude.{ℕ, ◌-◌, ◌^◌, ◌<◌, ◌≤◌, max, Bool, true, false, Option, Some, None, IsTrue}
use Rattle.gpu_alloc_types.specs.Flags.{usage_bits, has_bit, device_address}
use Rattle.std.specs.Int.{is_power_of_two}
use Rattle.gpu_alloc_base.specs.AlignMasks.{IsAlignMask}
use Rattle.gpu_alloc_base.specs.Sizes.{up}
use Rattle.gpu_alloc.specs.declared.request.Request.{Request}
use Rattle.gpu_alloc.specs.declared.request.Dedicated.{Dedicated}
use Rattle.gpu_alloc.specs.declared.request.Dedicated.TheVariants.{Required, Preferred}

-- some bytes, an alignment, and the address usage only where the device has the feature
pub record IsAskable (address : Bool) (r : Request) : Type 0 where
  pub nonempty : 0 < r.size
  pub alignment : IsAlignMask r.align_mask
  pub device_address : IsTrue (has_bit (usage_bits r.usage) device_address) → IsTrue address

-- a granularity of pages: a power of two of at most 2^32
pub record IsGranularity (granularity : ℕ) : Type 0 where
  pub power : IsTrue (is_power_of_two granularity)
  pub bound : granularity ≤ 2 ^ 32

-- a request in whole pages: its size rounded up to them, and its alignment at least one page
abbrev pub in_pages : ℕ → Request → Request
in_pages granularity r = record r { size = up r.size granularity; align_mask = max r.align_mask (granularity - 1) }

-- whether a hint demands an object of its own
abbrev pub is_required : Option Dedicated → Bool
is_required (Some Required) = true
is_required (Some Preferred) = false
is_required None = false
