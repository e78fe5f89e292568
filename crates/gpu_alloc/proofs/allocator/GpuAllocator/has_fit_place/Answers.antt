use Rattle.std.proofs.Common.{ap, refl, arith}
use Rattle.gpu_alloc_base.proofs.ChunkSizes.{up_enough}
use Rattle.gpu_alloc.specs.FitSharing.{grain_of}
use Rattle.gpu_alloc.specs.declared.allocator.Strategy.TheVariants.{InFitChunk}
use Rattle.gpu_alloc.proofs.ChosenStores.{free_chosen, not_buddies}
use Rattle.gpu_alloc.proofs.Fits.Named.{fit_asked, fit_in, fit_is_named, fit_named, fit_request, fits_fit}
use Rattle.gpu_alloc.proofs.HeldOnly.{place_told}
use Rattle.gpu_alloc.proofs.Shared.Calls.{serves, state_of}
use Rattle.gpu_alloc.proofs.allocator.GpuAllocator.has_fit_place.Goals as goal

pub refuses_fit-first-requires-clause-fits : goal.refuses_fit-first-requires-clause-fits
refuses_fit-first-requires-clause-fits g c =
    let known = rw (← c.self.view_is) at c.requires.known in
    let fits = rw (← c.self.view_is) at c.requires.fits in
    fits_fit _ _ _ (serves {n = fit_named} fit_is_named {l = c.self.inside.limits} (record { kept = c.self.invariant; known = known; at = c.index.ensures; is = ap fit_in c.in-Fit.is })) c.args.request fits

pub returns : goal.returns
returns g c =
    let known = rw (← c.self.view_is) at c.requires.known in
    let serving = serves {n = fit_named} fit_is_named {l = c.self.inside.limits} (record { kept = c.self.invariant; known = known; at = c.index.ensures; is = ap fit_in c.in-Fit.is }) in
    let request = fit_request _ c.args.memory_type _ serving c.args.request c.index-heap.result.now 0 _ c.requires.askable.nonempty refl in
    rw (← c.self.view_is) (place_told fit_asked InFitChunk _ c.args.memory_type c.in-Fit.fit c.index-heap.result.now c.args.request serving request c.refuses_fit-first.result (c.refuses_fit-first.ensures _) c.is_none.result c.is_none.ensures)

pub returns-in_default : goal.returns-in_default
returns-in_default g c =
    let known = rw (← c.self.view_is) at c.requires.known in
    let l = c.self.inside.limits in
    let s = state_of l c.self.inside.heaps.items c.self.inside.types.items c.self.inside.own c.self.inside.allocations_remains in
    let some = up_enough c.args.request.size (grain_of s c.args.memory_type) c.requires.askable.nonempty (omega arith) in
    rw (← c.self.view_is) (
      λ no. absurd (cc),
      λ has. absurd (
          let free = has.place.2.free has.place.1 (omega arith) (omega (arith, some, c.requires.askable.nonempty)) in
          not_buddies l c.self.invariant known c.index.ensures c.in_default.is (free_chosen l c.self.invariant free)),
    )
