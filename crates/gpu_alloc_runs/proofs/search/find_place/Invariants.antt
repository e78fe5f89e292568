use Rattle.std.proofs.Common.{◌≡◌, ℕ, ◌+◌, ◌<◌, ◌≤◌, Some}
use Rattle.gpu_alloc_runs.specs.Choice.{sure_class}
use Rattle.gpu_alloc_runs.specs.Classes.{class_of_bytes}
use Rattle.gpu_alloc_runs.specs.Filed.{filed_in}
use Rattle.gpu_alloc_runs.specs.Tiles.{HasRoomAt, tile_in}
use Rattle.gpu_alloc_runs.proofs.Walks.{IsSearch}
use Rattle.gpu_alloc_runs.proofs.search.find_place.Given as goal

-- that many tiles are looked at and passed, more than a few only where no class that is sure has one
abbrev pub invariant-loop-passed : goal.invariant-loop-passed
invariant-loop-passed g l =
    (l.looks ≡ l.fn.looks + l.passed)
    × IsSearch l.nodes l.classes (class_of_bytes l.size) (sure_class l.size (l.align_mask + 1)) (HasRoomAt (tile_in l.nodes) l.size (l.align_mask + 1)) l.class l.key l.passed
    × (4 < l.passed → (k c : ℕ) → filed_in l.nodes k ≡ Some c → sure_class l.size (l.align_mask + 1) ≤ c → ⊥)
