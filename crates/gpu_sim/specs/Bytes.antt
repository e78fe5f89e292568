-- Bytes: which of them are copied, and where to.
use Rattle.std.specs.Prelude.{ℕ, ◌+◌, ◌/◌, List, ◌++◌, length, take, drop}
use Rattle.gpu_sim.specs.declared.sim.bytes.Part.{Part}
use Rattle.gpu_sim.specs.declared.sim.bytes.Part.TheVariants.{Whole, FirstHalf}

-- how many bytes of a range of this size are copied
abbrev pub size_of_part : Part → ℕ → ℕ
size_of_part Whole size = size
size_of_part FirstHalf size = size / 2

-- `to`, with a range of its bytes taken from `from`
abbrev pub with_range : (offset size : ℕ) → (from to : List ℕ) → List ℕ
with_range offset size from to = take offset to ++ take size (drop offset from) ++ drop (offset + size) to

-- `to`, with `bytes` written over it from an offset on
abbrev pub bytes_written : ℕ → (bytes to : List ℕ) → List ℕ
bytes_written offset bytes to = take offset to ++ bytes ++ drop (offset + length bytes) to
