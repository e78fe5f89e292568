use Rattle.std.proofs.Common.{sym, subst}
use Rattle.gpu_alloc_runs.specs.Fits.{FitStore}
use Rattle.gpu_alloc_runs.specs.Space.{IsLiveFitSpan}
use Rattle.gpu_alloc_runs.proofs.Nodes.{tile_of_node}
use Rattle.gpu_alloc_runs.proofs.Stored.{at_place, none_at, span_at, the_span}
use Rattle.gpu_alloc_runs.proofs.fits.Fits.find.Goals as goal

pub returns-in_err-place-clause-found : goal.returns-in_err-place-clause-found
returns-in_err-place-clause-found g c =
    let none = none_at g.M.MemoryObject.object c.self.inside.chunks c.self.inside.tiles c.self.invariant.stored.kept c.args.object c.args.offset c.args.size c.in_err-place.ensures in
    rw (c.from_residual.ensures, ← c.self.view_is) none

pub returns-clause-found : goal.returns-clause-found
returns-clause-found g c =
    rw (← c.self.view_is)
    (span_at g.M.MemoryObject.object c.self.inside.chunks c.self.inside.tiles c.self.invariant.stored.kept c.args.object c.args.offset c.args.size c.in_ok-place.place.key c.in_ok-place.place.node.tile
    (tile_of_node c.self.inside.tiles c.in_ok-place.place.key c.in_ok-place.place.node c.in_ok-place.ensures.at) (at_place c.in_ok-place.ensures))

pub returns-clause-exact : goal.returns-clause-exact
returns-clause-exact g c slot span =
    the_span g.M.MemoryObject.object c.self.inside.chunks c.self.inside.tiles c.self.invariant.stored.kept c.args.object c.args.offset c.args.size c.in_ok-place.place.key c.in_ok-place.place.node.tile
    (tile_of_node c.self.inside.tiles c.in_ok-place.place.key c.in_ok-place.place.node c.in_ok-place.ensures.at) (at_place c.in_ok-place.ensures) c.self.invariant.stored.one_object slot (subst (λ (s : FitStore). IsLiveFitSpan s.space c.args.object c.args.offset c.args.size slot) (sym c.self.view_is) span)
