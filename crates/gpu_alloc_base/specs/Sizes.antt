-- Sizes that follow from a configuration and from what a device offers. All are bytes.
use Rattle.std.specs.Prelude.{◌≡◌, ◌≤◌, ◌^◌, ℕ, zero, suc, ◌+◌, ◌-◌, ◌*◌, ◌/◌, ◌==◌, min, max, nat_le, cond}
use Rattle.std.specs.Prelude.{if◌then◌else◌}
use Rattle.gpu_alloc_types.specs.Properties.{are_non_coherent}
use Rattle.gpu_alloc_base.specs.declared.config.Config.{Config}

-- the first of p, 2p, 4p, .. that is not below x, after at most n doublings
unfoldable pub doubled_up : ℕ → ℕ → ℕ → ℕ
doubled_up zero p x = p
doubled_up (suc n) p x = if nat_le x p then p else doubled_up n (2 * p) x

-- the least power of two not below a number of at most 2^64
abbrev pub next_power_of_two : ℕ → ℕ
next_power_of_two x = doubled_up 64 1 x

-- n is the least power of two not below x
pub record IsNextPowerOfTwo (x n : ℕ) : Type 0 where
  pub power : (k : ℕ) × (n ≡ 2 ^ k)
  pub enough : x ≤ n
  pub least : (k : ℕ) → x ≤ 2 ^ k → n ≤ 2 ^ k

-- the greatest multiple of a that is at most x, and the least that is at least x
abbrev pub down : ℕ → ℕ → ℕ
down x a = x / a * a

abbrev pub up : ℕ → ℕ → ℕ
up x a = (x + (a - 1)) / a * a

-- the atom of memory with these property bits, on a device whose atom has this size
abbrev pub atom_where : ℕ → ℕ → ℕ
atom_where size bits = cond (are_non_coherent bits) size 1

-- Thresholds. A preferred object of its own begins no later than any other, a transient one no earlier.

abbrev pub preferred_threshold : Config → ℕ
preferred_threshold c = min c.preferred_dedicated_threshold c.dedicated_threshold

abbrev pub transient_threshold : Config → ℕ
transient_threshold c = max c.transient_dedicated_threshold c.dedicated_threshold

-- Chunks, for a memory type whose heap has this size. No chunk begins larger than a small part of its heap.

-- the smallest buddy block
abbrev pub minimal_size : Config → ℕ → ℕ
minimal_size c heap = next_power_of_two (min c.minimal_buddy_size (heap / 1024))

-- the least size of the first buddy chunk
abbrev pub initial_size : Config → ℕ → ℕ
initial_size c heap = next_power_of_two (min c.initial_buddy_dedicated_size (heap / 32))

-- a number of bytes in whole atoms: at most a part of the heap, and at least one atom
abbrev pub at_least_an_atom : ℕ → ℕ → ℕ
at_least_an_atom atom size = cond (size == 0) atom size

abbrev pub cut : ℕ → ℕ → ℕ → ℕ
cut heap atom size = at_least_an_atom atom (down (min size (heap / 32)) atom)

-- the least size of the first free-list chunk
abbrev pub starting_size : Config → ℕ → ℕ → ℕ
starting_size c heap atom = cut heap atom c.starting_free_list_chunk

-- the largest free-list chunk
abbrev pub final_size : Config → ℕ → ℕ → ℕ
final_size c heap atom =
    cut heap atom (max (max c.final_free_list_chunk c.starting_free_list_chunk) (transient_threshold c))

-- a chunk for a block of this size, where the next one would have `next` bytes and none has more than `final`. It is
-- the next one, or where that is too small, doubled until it suffices, and capped at the largest
abbrev pub grown_chunk : ℕ → ℕ → ℕ → ℕ
grown_chunk next final size =
    cond (nat_le size next) next (min (next * next_power_of_two ((size + (next - 1)) / next)) final)

-- the same without steps: it holds the block. It is the least that does so of the products of the next one's size with
-- powers of two, each capped at the largest
pub record IsLeastProduct (next final size chunk : ℕ) : Type 0 where
  pub enough : size ≤ chunk
  pub product : (k : ℕ) × (chunk ≡ min (next * 2 ^ k) final)
  pub least : (k : ℕ) → size ≤ next * 2 ^ k → chunk ≤ next * 2 ^ k

-- the size of the next chunk once one of this size was made: twice as much, capped at the largest
abbrev pub doubled_chunk : ℕ → ℕ → ℕ
doubled_chunk final size = min (2 * size) final
