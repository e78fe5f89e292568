use Rattle.std.proofs.Common.{◌<◌, ◌^◌, ℕ, List, Contains}
use Rattle.std.proofs.lemmas.Nat.{pow_pos}
use Rattle.gpu_alloc_base.specs.declared.region.FreeListRegion.{FreeListRegion}
use Rattle.gpu_alloc_base.specs.FreeRuns.{IsSpaced, IsListPlace, HasRoom, tail_start}
use Rattle.gpu_alloc_freelist.specs.FreeListState.{IsFreeIn}
use Rattle.gpu_alloc.specs.FreeBytes.{IsFreeByte}
use Rattle.gpu_alloc.specs.FreeListSharing.{IsFreeInChunk}
use Rattle.gpu_alloc_block.specs.declared.block.Kind.TheVariants.{FitChunk}
use Rattle.gpu_alloc_base.proofs.FreeRuns.{region_is_run, run_is_region, place_has_run, run_has_place}
use Rattle.gpu_alloc.proofs.laws.regions_are_the_free_runs.Goals as goal

module _ (F : ℕ → ℕ → Type 0) (regions : List FreeListRegion) (spaced : IsSpaced F (Contains regions)) (size order : ℕ) (some : 0 < size) where
  has_room : (chunk start : ℕ) × IsListPlace F size (2 ^ order) chunk start → (r : FreeListRegion) × Contains regions r × HasRoom size (2 ^ order) r.start r.end
  has_room place =
      let found = place_has_run F (Contains regions) spaced size (2 ^ order) place.0 place.1 some (pow_pos order) place.2 in
      (found.0, found.1, found.3)

  has_place : (r : FreeListRegion) × Contains regions r × HasRoom size (2 ^ order) r.start r.end → (chunk start : ℕ) × IsListPlace F size (2 ^ order) chunk start
  has_place room = (room.0.chunk, tail_start size (2 ^ order) room.0.end, run_has_place F (Contains regions) spaced size (2 ^ order) room.0 (pow_pos order) room.1 room.2)

pub returns-clause-exact : goal.returns-clause-exact
returns-clause-exact c s regions spaced r = (region_is_run (IsFreeIn s) (Contains regions) spaced r, run_is_region (IsFreeIn s) (Contains regions) spaced r)

pub returns-clause-place : goal.returns-clause-place
returns-clause-place c s regions spaced size order some = (has_room (IsFreeIn s) regions spaced size order some, has_place (IsFreeIn s) regions spaced size order some)

pub returns-clause-exact_in_state : goal.returns-clause-exact_in_state
returns-clause-exact_in_state c s t regions spaced r = (region_is_run (IsFreeInChunk s t) (Contains regions) spaced r, run_is_region (IsFreeInChunk s t) (Contains regions) spaced r)

pub returns-clause-place_in_state : goal.returns-clause-place_in_state
returns-clause-place_in_state c s t regions spaced size order some = (has_room (IsFreeInChunk s t) regions spaced size order some, has_place (IsFreeInChunk s t) regions spaced size order some)

pub returns-clause-exact_in_fits : goal.returns-clause-exact_in_fits
returns-clause-exact_in_fits c s t regions spaced r = (region_is_run (IsFreeByte s t FitChunk) (Contains regions) spaced r, run_is_region (IsFreeByte s t FitChunk) (Contains regions) spaced r)

pub returns-clause-place_in_fits : goal.returns-clause-place_in_fits
returns-clause-place_in_fits c s t regions spaced size order some = (has_room (IsFreeByte s t FitChunk) regions spaced size order some, has_place (IsFreeByte s t FitChunk) regions spaced size order some)
