use Rattle.std.proofs.Common.{refl, ap}
use Rattle.gpu_alloc.proofs.ChosenStores.{no_buddy}
use Rattle.gpu_alloc.proofs.Fits.Named.{fit_in, fit_is_named, fit_named, slot_is, span_there}
use Rattle.gpu_alloc.proofs.Shared.Owned.{found_owned, has_found, never_owned}
use Rattle.gpu_alloc.proofs.WholeOwned.{unknown_unowned}
use Rattle.gpu_alloc.proofs.allocator.GpuAllocator.has_in_fit.Goals as goal

pub returns-in-Fit : goal.returns-in-Fit
returns-in-Fit g c =
    let at = rw (c.deref.ensures.value, c.memory_type.ensures) at c.in-Some.ensures.lookup in
    let found = rw (c.object-object.ensures, c.memory.ensures, c.offset-offset.ensures, c.size-size.ensures) at c.find.ensures.found in
    let has = has_found fit_named c.self.inside.limits c.self.invariant at.3.0 at.1 (ap fit_in c.in-Fit.is) in
    rw (← c.self.view_is, c.is_some.ensures) (found_owned fit_is_named has refl (λ found. found.0) c.find.result 0 c.requires found (λ slot is none. none slot (span_there _ _ slot _ _ _ is refl refl refl)) (λ found is. slot_is _ _ found.0 c.requires is))

pub returns-in-Buddy : goal.returns-in-Buddy
returns-in-Buddy g c = rw (← c.self.view_is) (never_owned (λ owned. no_buddy c.self.inside.limits c.self.invariant (rw (c.deref.ensures.value, c.memory_type.ensures) at c.in-Some.ensures.lookup).1 refl owned c.in-Buddy.is c.requires))

pub returns-in-None : goal.returns-in-None
returns-in-None g c = rw (← c.self.view_is) (never_owned (unknown_unowned c.self.inside.limits _ _ _ _ c.self.invariant c.args.block.now _ c.self.invariant.shared.count (rw (c.deref.ensures.value, c.memory_type.ensures) at c.in-None.ensures.lookup).3))
