-- How the names of released objects are read.
use Rattle.std.specs.Prelude.{◌≡◌, ◌++◌, ℕ, List, length, map, reverse, take}
use Rattle.gpu_desk.specs.Calls.{OnlyReads}
use Rattle.gpu_alloc_types.specs.declared.types.FreeRange.{FreeRange}
use Rattle.gpu_desk.specs.Desk.{DeskState}
use Rattle.wallthyme.specs.Layout.{free_range_of}
use Rattle.wallthyme.specs.declared.layout.Range.{Range}

-- these names were read, each once, the latest first; and nothing else changed
pub record Reads (old : DeskState) (names : List ℕ) (new : DeskState) : Type 0 where
  pub read : old.device.held.gone ≡ new.device.held.gone ++ reverse names
  pub only : OnlyReads old new

-- the free ranges are written in their order, as many as there is room for
abbrev pub AreRangesTold : List FreeRange → List Range → Type 0
AreRangesTold found told = take (length found) told ≡ take (length told) (map free_range_of found)
