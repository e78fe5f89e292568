use Rattle.std.proofs.Common.{refl}
use Rattle.gpu_alloc.specs.declared.allocator.Strategy.TheVariants.{InFreeList}
use Rattle.gpu_alloc.proofs.FreeLists.Named.{fits_list, list_asked, list_is_named, list_named, list_request}
use Rattle.gpu_alloc.proofs.HeldOnly.{place_told}
use Rattle.gpu_alloc.proofs.Shared.Calls.{serves}
use Rattle.gpu_alloc.proofs.allocator.GpuAllocator.has_list_place.Goals as goal

pub refuses-requires-clause-fits : goal.refuses-requires-clause-fits
refuses-requires-clause-fits g c =
    let known = rw (← c.self.view_is) at c.requires.known in
    let fits = rw (← c.self.view_is) at c.requires.fits in
    fits_list _ _ _ (serves {n = list_named} list_is_named {l = c.self.inside.limits} (record { kept = c.self.invariant; known = known; at = c.index.ensures; is = refl })) c.args.request fits

pub returns : goal.returns
returns g c =
    let known = rw (← c.self.view_is) at c.requires.known in
    let serving = serves {n = list_named} list_is_named {l = c.self.inside.limits} (record { kept = c.self.invariant; known = known; at = c.index.ensures; is = refl }) in
    let request = list_request _ c.args.memory_type _ serving c.args.request c.index-heap.result.now 0 _ refl in
    rw (← c.self.view_is) (place_told list_asked InFreeList _ c.args.memory_type c.index.result.now.free_list c.index-heap.result.now c.args.request serving request c.refuses.result (c.refuses.ensures _) c.is_none.result c.is_none.ensures)
