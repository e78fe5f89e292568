-- Two descriptions of free bytes that agree have the same places and the same runs.
use Rattle.std.proofs.Common.{ℕ, List, Contains}
use Rattle.gpu_alloc_base.specs.FreeRuns.{AreFree, AreRuns, IsFreeRun, IsListPlace, IsSpaced, IsLastWithRoom, IsLastRun}
use Rattle.gpu_alloc_base.specs.declared.region.FreeListRegion.{FreeListRegion}

-- both say of each byte that it is free, or neither
pub record AreSameBytes (F G : ℕ → ℕ → Type 0) : Type 0 where
  pub to : (chunk at : ℕ) → F chunk at → G chunk at
  pub from : (chunk at : ℕ) → G chunk at → F chunk at

pub same_back : {F G : ℕ → ℕ → Type 0} → AreSameBytes F G → AreSameBytes G F
same_back same = record { to = same.from; from = same.to }

module _ {F G : ℕ → ℕ → Type 0} (same : AreSameBytes F G) where
  pub free_same : (chunk start end : ℕ) → AreFree F chunk start end → AreFree G chunk start end
  free_same chunk start end free at from below = same.to chunk at (free at from below)

  pub place_same : (size alignment chunk start : ℕ) → IsListPlace F size alignment chunk start → IsListPlace G size alignment chunk start
  place_same size alignment chunk start place = record { aligned = place.aligned; free = free_same chunk start _ place.free }

  -- regions that are spaced by one are so by the other
  pub spaced_same : (Has : FreeListRegion → Type 0) → IsSpaced F Has → IsSpaced G Has
  spaced_same Has spaced = record {
    nonempty = spaced.nonempty;
    apart = spaced.apart;
    free = λ r has. free_same r.chunk r.start r.end (spaced.free r has);
    covers = λ chunk at free. spaced.covers chunk at (same.from chunk at free);
  }

  -- and regions that are the runs
  pub runs_same : (regions : List FreeListRegion) → AreRuns regions F → AreRuns regions G
  runs_same regions runs = record { spaced = spaced_same (Contains regions) runs.spaced; rising = runs.rising }

module _ {F G : ℕ → ℕ → Type 0} (same : AreSameBytes F G) where
  pub run_same : (chunk start end : ℕ) → IsFreeRun F chunk start end → IsFreeRun G chunk start end
  run_same chunk start end run = record {
    nonempty = run.nonempty;
    free = free_same same chunk start end run.free;
    longest = λ start' end' free. run.longest start' end' (free_same (same_back same) chunk start' end' free);
  }

module _ {F G : ℕ → ℕ → Type 0} (same : AreSameBytes F G) where
  -- the last run that has room
  pub last_room_same : (size alignment : ℕ) (r : FreeListRegion) → IsLastWithRoom F size alignment r → IsLastWithRoom G size alignment r
  last_room_same size alignment r is = record {
    run = run_same same r.chunk r.start r.end is.run;
    room = is.room;
    last = λ s run. is.last s (run_same (same_back same) s.chunk s.start s.end run);
  }

  -- the last run of all
  pub last_run_same : (r : FreeListRegion) → IsLastRun F r → IsLastRun G r
  last_run_same r is = record {
    run = run_same same r.chunk r.start r.end is.run;
    last = λ s run. is.last s (run_same (same_back same) s.chunk s.start s.end run);
  }
