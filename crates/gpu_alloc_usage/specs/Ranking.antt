-- Which memory types serve a usage, and the order in which they are tried. Usages and properties are numbers of flags.
use Rattle.std.specs.Prelude.{ℕ, ◌+◌, ◌<◌, ◌≡◌, ◌==◌, Bool, true, false, not, ◌&&◌, ◌||◌, if◌then◌else◌, List, [], ◌∷◌}
use Rattle.std.specs.Prelude.{length, filter, nat_lt, slice_get, slice_index, slice_index_or, Contains, ◌⊎◌, ◌↔◌}
use Rattle.std.specs.Prelude.{bit_and, bit_or}
use Rattle.std.specs.Int.{bit_at}
use Rattle.std.specs.List.{range_with_len}
use Rattle.gpu_alloc_types.specs.Flags.{named_usage_bits, has_bit, fast_device_access, host_access, download, upload}
use Rattle.gpu_alloc_types.specs.Flags.{device_local, host_visible, host_coherent, host_cached, lazily_allocated, protected}
use Rattle.gpu_alloc_types.specs.Properties.{bits_of}
use Rattle.gpu_alloc_types.specs.declared.types.MemoryType.{MemoryType}

-- What a usage means.

-- a usage's named bits
abbrev pub named : ℕ → ℕ
named usage = bit_and usage named_usage_bits

-- no flag means FAST_DEVICE_ACCESS
abbrev pub with_fast : ℕ → ℕ
with_fast usage = if usage == 0 then fast_device_access else usage

-- DOWNLOAD and UPLOAD imply HOST_ACCESS
abbrev pub with_host : ℕ → ℕ
with_host usage = if has_bit usage (download + upload) then bit_or usage host_access else usage

-- the meaning of a usage. Unnamed bits are dropped first
abbrev pub implied : ℕ → ℕ
implied usage = with_host (with_fast (named usage))

-- How well a memory type serves a usage.

-- the host reads or writes: HOST_ACCESS, DOWNLOAD or UPLOAD
abbrev pub by_host : ℕ → Bool
by_host usage = has_bit usage (host_access + download + upload)

-- the usage prefers the device's own memory: no flag, or FAST_DEVICE_ACCESS
abbrev pub is_fast : ℕ → Bool
is_fast usage = (usage == 0) || has_bit usage fast_device_access

-- memory may serve a usage: neither LAZILY_ALLOCATED nor PROTECTED, and HOST_VISIBLE where the host reads or writes
abbrev pub compatible : ℕ → ℕ → Bool
compatible usage props = not (has_bit props (lazily_allocated + protected)) && (not (by_host usage) || has_bit props host_visible)

-- n where the two differ, and 0 otherwise
abbrev pub where_differ : ℕ → Bool → Bool → ℕ
where_differ n true true = 0
where_differ n true false = n
where_differ n false true = n
where_differ n false false = 0

-- how far memory is from a usage's preferences: DEVICE_LOCAL counts 8, HOST_VISIBLE 4, HOST_CACHED 2, HOST_COHERENT 1
abbrev pub key : ℕ → ℕ → ℕ
key usage props =
    where_differ 8 (has_bit props device_local) (is_fast usage)
    + where_differ 4 (has_bit props host_visible) (by_host usage)
    + where_differ 2 (has_bit props host_cached) (has_bit usage download)
    + where_differ 1 (has_bit props host_coherent) (has_bit usage (download + upload))

-- The ranking: the types that may serve a usage, put in order.

-- the property bits of the type with index t, 0 where there is no such type
abbrev pub props_of : List MemoryType → ℕ → ℕ
props_of types t = bits_of (slice_get types t)

-- a type's key for a usage
abbrev pub key_of : ℕ → List MemoryType → ℕ → ℕ
key_of usage types t = key usage (props_of types t)

-- the types that may serve a usage, by index
abbrev pub serving : ℕ → List MemoryType → List ℕ
serving usage types = filter (λ t. compatible usage (props_of types t)) (range_with_len 0 (length types))

-- t inserted before the first whose key is not lower
unfoldable pub put_in : (ℕ → ℕ) → ℕ → List ℕ → List ℕ
put_in k t [] = t ∷ []
put_in k t (s ∷ rest) = if nat_lt (k s) (k t) then s ∷ put_in k t rest else t ∷ s ∷ rest

-- the lowest key first, and equal keys in their old order
unfoldable pub in_order : (ℕ → ℕ) → List ℕ → List ℕ
in_order k [] = []
in_order k (t ∷ rest) = put_in k t (in_order k rest)

-- the types that may serve a usage, by key and then by index
abbrev pub ranking : ℕ → List MemoryType → List ℕ
ranking usage types = in_order (key_of usage types) (serving usage types)

-- whether a mask has the bit of the type with index t
abbrev pub is_allowed : ℕ → ℕ → Bool
is_allowed mask t = bit_at mask t == 1

-- the types that are tried for a request, in this order: those ranked for its usage whose bit is set
abbrev pub candidates : List MemoryType → ℕ → ℕ → List ℕ
candidates types usage mask = filter (is_allowed mask) (ranking (implied usage) types)

-- The ranking, by its members and its order.

-- there is a type with index t, and it may serve a usage
abbrev pub ServesUsage : ℕ → List MemoryType → ℕ → Type 0
ServesUsage usage types t = (t < length types) × (compatible usage (props_of types t) ≡ true)

-- s comes before t: its key is lower, or the keys are equal and s is lower
abbrev pub Before : (ℕ → ℕ) → ℕ → ℕ → Type 0
Before k s t = (k s < k t) ⊎ ((k s ≡ k t) × (s < t))

-- each comes before those after it
abbrev pub IsRising : (ℕ → ℕ) → List ℕ → Type 0
IsRising k xs = (a b : ℕ) → a < b → b < length xs → Before k (slice_index xs a) (slice_index xs b)

-- exactly the types that may serve a usage, the lowest key first, and among equals the lowest index first
pub record IsRanking (usage : ℕ) (types : List MemoryType) (ranked : List ℕ) : Type 0 where
  pub exactly : (t : ℕ) → Contains ranked t ↔ ServesUsage usage types t
  pub rising : IsRising (key_of usage types) ranked

-- exactly those of them whose bit is set in a mask, in the same order
pub record IsRankingWithin (usage : ℕ) (types : List MemoryType) (mask : ℕ) (ranked : List ℕ) : Type 0 where
  pub exactly : (t : ℕ) → Contains ranked t ↔ ServesUsage usage types t × (bit_at mask t ≡ 1)
  pub rising : IsRising (key_of usage types) ranked

-- The table of all usages.

-- a mask has exactly the bits of these types
abbrev pub IsMaskOf : ℕ → List ℕ → Type 0
IsMaskOf mask types = (t : ℕ) → (bit_at mask t ≡ 1) ↔ Contains types t

-- a usage's row of a table
abbrev pub row : List (List ℕ) → ℕ → List ℕ
row table usage = slice_index_or table (named usage) []

-- there is a row for each set of named flags, and a usage's row is the ranking for its named flags
pub record IsTable (types : List MemoryType) (table : List (List ℕ)) : Type 0 where
  pub rows : length table ≡ 64
  pub ranked : (usage : ℕ) → row table usage ≡ ranking (named usage) types
