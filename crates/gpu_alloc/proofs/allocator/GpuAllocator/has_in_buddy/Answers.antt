use Rattle.std.proofs.Common.{refl, ap}
use Rattle.gpu_alloc.proofs.Buddies.Named.{buddy_in, buddy_is_named, buddy_named, leaf_is, leaf_there}
use Rattle.gpu_alloc.proofs.ChosenStores.{no_fit}
use Rattle.gpu_alloc.proofs.Shared.Owned.{found_owned, has_found, never_owned}
use Rattle.gpu_alloc.proofs.WholeOwned.{unknown_unowned}
use Rattle.gpu_alloc.proofs.allocator.GpuAllocator.has_in_buddy.Goals as goal

pub returns-in-Buddy : goal.returns-in-Buddy
returns-in-Buddy g c =
    let at = rw (c.deref.ensures.value, c.memory_type.ensures) at c.in-Some.ensures.lookup in
    let found = rw (c.object-object.ensures, c.memory.ensures, c.offset-offset.ensures, c.size-size.ensures) at c.find.ensures.found in
    let has = has_found buddy_named c.self.inside.limits c.self.invariant at.3.0 at.1 (ap buddy_in c.in-Buddy.is) in
    rw (← c.self.view_is, c.is_some.ensures) (found_owned buddy_is_named has refl (λ leaf. leaf) c.find.result 0 c.requires found (λ leaf is none. none leaf (leaf_there _ _ leaf is)) (λ leaf is. leaf_is _ _ leaf c.requires is))

pub returns-in-Fit : goal.returns-in-Fit
returns-in-Fit g c = rw (← c.self.view_is) (never_owned (λ owned. no_fit c.self.inside.limits c.self.invariant (rw (c.deref.ensures.value, c.memory_type.ensures) at c.in-Some.ensures.lookup).1 refl owned c.in-Fit.is c.requires))

pub returns-in-None : goal.returns-in-None
returns-in-None g c = rw (← c.self.view_is) (never_owned (unknown_unowned c.self.inside.limits _ _ _ _ c.self.invariant c.args.block.now _ c.self.invariant.shared.count (rw (c.deref.ensures.value, c.memory_type.ensures) at c.in-None.ensures.lookup).3))
