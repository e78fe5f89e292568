use Rattle.gpu_alloc.proofs.WholeOwned.{row_owned, unheld_unowned}
use Rattle.gpu_alloc.proofs.allocator.GpuAllocator.has_own.Goals as goal

pub returns-in-Some : goal.returns-in-Some
returns-in-Some g c =
    let row = rw (c.object.ensures, c.memory.ensures) at c.in-Some.ensures in
    let owned = row_owned c.self.inside.limits _ _ _ _ c.self.invariant c.args.block.now c.requires c.in-Some.row row in
    let tells = rw (c.offset.ensures, c.size.ensures, c.memory_type.ensures, c.kind.ensures) at c.is.ensures in
    rw (← c.self.view_is) (λ yes. owned.0 (tells.0 yes), λ is. tells.1 (owned.1 is))

pub returns-in-None : goal.returns-in-None
returns-in-None g c =
    let none = rw (c.object.ensures, c.memory.ensures) at c.in-None.ensures in
    (λ no. absurd (cc), λ owned. absurd (unheld_unowned c.self.inside.limits _ _ _ _ c.self.invariant c.args.block.now c.requires none (rw (← c.self.view_is) at owned)))
