use Rattle.std.proofs.Common.{◌↔◌, ◌+◌, IsSome, sym, subst, arith}
use Rattle.gpu_alloc_runs.specs.Fits.{FitStore}
use Rattle.gpu_alloc_runs.specs.Inside.{IsChosenTile, chunks_of_rows, fit_space_in}
use Rattle.gpu_alloc_runs.specs.Space.{HasPlace, LooksAtFew}
use Rattle.gpu_alloc_runs.specs.Tiles.{tile_in}
use Rattle.gpu_alloc_runs.proofs.Runs.{has_place, told}
use Rattle.gpu_alloc_runs.proofs.fits.Fits.has_place.Given.{Over}
use Rattle.gpu_alloc_runs.proofs.fits.Fits.has_place.Goals as goal

-- a tile is found exactly where there is a place
tells : (g : Over) (c : goal.After-is_some g) → IsSome c.find_place-found.result ↔ HasPlace (fit_space_in (chunks_of_rows g.M.MemoryObject.object c.self.inside.chunks) c.self.inside.tiles) c.args.size (c.args.align_mask + 1)
tells g c =
    told c.find_place-found.result _ (IsChosenTile (fit_space_in (chunks_of_rows g.M.MemoryObject.object c.self.inside.chunks) c.self.inside.tiles) (tile_in c.self.inside.tiles) c.args.size (c.args.align_mask + 1)) c.find_place-found.ensures.place
    (λ found is. has_place g.M.MemoryObject.object c.self.inside.chunks c.self.inside.tiles c.self.invariant.stored.kept c.args.size (c.args.align_mask + 1) (omega arith) found.0 (found.1, (is.at, (is.free, is.chosen.room))))

pub returns : goal.returns
returns g c = record {
  place = rw (← c.self.view_is, c.is_some.ensures) (tells g c);
  looks = subst (λ (s : FitStore). LooksAtFew s.space c.args.size (c.args.align_mask + 1) c.args.looks.now c.find_place-found.new.looks) c.self.view_is c.find_place-found.ensures.looks;
  some = λ place. c.find_place-found.ensures.some ((tells g c).1 (subst (λ (s : FitStore). HasPlace s.space c.args.size (c.args.align_mask + 1)) (sym c.self.view_is) place));
}
