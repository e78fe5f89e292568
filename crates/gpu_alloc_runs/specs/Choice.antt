-- Which free run a block is taken from, and how many free runs are looked at.
use Rattle.std.specs.Prelude.{◌≡◌, ℕ, ◌+◌, ◌-◌, ◌*◌, ◌<◌, ◌≤◌}
use Rattle.gpu_alloc_base.specs.FreeRuns.{HasRoom, IsFreeRun}
use Rattle.gpu_alloc_base.specs.FreeSpace.{IsMultipleOf}
use Rattle.gpu_alloc_base.specs.declared.region.FreeListRegion.{FreeListRegion}
use Rattle.gpu_alloc_runs.specs.Classes.{class_of_bytes, least_grains}

-- a run's class
abbrev pub class_of_run : FreeListRegion → ℕ
class_of_run r = class_of_bytes (r.end - r.start)

-- the first class in which each run has room for a block of this size at a multiple of the alignment, wherever the run
-- starts
abbrev pub sure_class : ℕ → ℕ → ℕ
sure_class size alignment = class_of_bytes (size - 1 + (alignment - 1)) + 1

-- the size is the least of its class
abbrev pub BeginsClass : ℕ → Type 0
BeginsClass size = size ≡ least_grains (class_of_bytes size) * 256

-- how many runs have to lack room before a class may be passed over
abbrev pub few : ℕ
few = 4

-- a run lacks room, and its class is at least that of the size and at most this one
pub record LacksRoom (size alignment class : ℕ) (r : FreeListRegion) : Type 0 where
  pub own : class_of_bytes size ≤ class_of_run r
  pub up_to : class_of_run r ≤ class
  pub none : HasRoom size alignment r.start r.end → ⊥

-- a run may have room by its class, but lacks it
pub record IsMiss (size alignment : ℕ) (r : FreeListRegion) : Type 0 where
  pub own : class_of_bytes size ≤ class_of_run r
  pub below : class_of_run r < sure_class size alignment
  pub none : HasRoom size alignment r.start r.end → ⊥

-- F says which bytes of which chunks are free.
module _ (F : ℕ → ℕ → Type 0) where
  abbrev pub IsRun : FreeListRegion → Type 0
  IsRun r = IsFreeRun F r.chunk r.start r.end

  -- there are `count` distinct free runs with this property
  pub record HasDistinctRuns (count : ℕ) (P : FreeListRegion → Type 0) : Type 0 where
    pub run : ℕ → FreeListRegion
    pub free : (i : ℕ) → i < count → IsRun (run i)
    pub holds : (i : ℕ) → i < count → P (run i)
    pub differ : (i j : ℕ) → i < count → j < count → run i ≡ run j → i ≡ j

  -- From the class of the size on, the first few runs lack room. They are in no class above this one.
  pub record FirstLackRoom (size alignment class : ℕ) : Type 0 where
    pub last : ℕ
    pub up_to : last ≤ class
    pub runs : HasDistinctRuns few (LacksRoom size alignment last)
    pub first : (r : FreeListRegion) → IsRun r → class_of_bytes size ≤ class_of_run r → class_of_run r < last
        → (i : ℕ) × ((i < few) × (runs.run i ≡ r))

  -- At most one more run is looked at than those that lack room though they may have it by their class. Where some
  -- class is sure and has runs, at most `few` and one are looked at. Where the size is the least of its class and free
  -- runs start at multiples of the alignment, at most one is.
  pub record AreFewLooks (size alignment looks : ℕ) : Type 0 where
    pub count : ℕ
    pub misses : HasDistinctRuns count (IsMiss size alignment)
    pub bound : looks ≤ count + 1
    pub sure : (r : FreeListRegion) → IsRun r → sure_class size alignment ≤ class_of_run r → looks ≤ few + 1
    pub one : BeginsClass size → ((r : FreeListRegion) → IsRun r → IsMultipleOf alignment r.start) → looks ≤ 1

  -- `whole` is how many bytes a chunk has.
  module _ (whole : ℕ → ℕ) where
    -- the run is a wholly free chunk
    pub record IsWholeRun (r : FreeListRegion) : Type 0 where
      pub starts : r.start ≡ 0
      pub ends : r.end ≡ whole r.chunk

    -- The run has room. Its class is no higher than the lowest sure one that has runs. A run with room in a lower class
    -- is passed over only for one of a sure class, and where the first few lack room. A wholly free chunk is chosen
    -- only where no other run of its class has room.
    pub record IsChosenRun (size alignment : ℕ) (r : FreeListRegion) : Type 0 where
      pub run : IsRun r
      pub room : HasRoom size alignment r.start r.end
      pub sure : (s : FreeListRegion) → IsRun s → sure_class size alignment ≤ class_of_run s
          → class_of_run r ≤ class_of_run s
      pub lower : (s : FreeListRegion) → IsRun s → HasRoom size alignment s.start s.end
          → class_of_run s < class_of_run r
          → (sure_class size alignment ≤ class_of_run r) × FirstLackRoom size alignment (class_of_run s)
      pub last : IsWholeRun r → (s : FreeListRegion) → IsRun s → HasRoom size alignment s.start s.end
          → class_of_run s ≡ class_of_run r → s ≡ r
