-- Runs that are whole chunks.
use Rattle.std.specs.Prelude.{ℕ, Bool, false, ◌==◌, ◌&&◌, List, Option, Some, None}
use Rattle.std.specs.List.{count_by}
use Rattle.std.specs.FinMap as map
use Rattle.gpu_alloc_base.specs.Accounts.{HeldChunks}
use Rattle.gpu_alloc_base.specs.Chunks.{Chunk}
use Rattle.gpu_alloc_base.specs.declared.region.FreeListRegion.{FreeListRegion}

-- the chunk has this size
abbrev pub has_size : Option Chunk → ℕ → Bool
has_size None size = false
has_size (Some chunk) size = chunk.size == size

-- the run starts and ends with its chunk
abbrev pub is_whole : HeldChunks → FreeListRegion → Bool
is_whole held r = (r.start == 0) && has_size (map.get held r.chunk) r.end

-- how many runs are whole chunks
abbrev pub wholes : HeldChunks → List FreeListRegion → ℕ
wholes held regions = count_by (is_whole held) regions
