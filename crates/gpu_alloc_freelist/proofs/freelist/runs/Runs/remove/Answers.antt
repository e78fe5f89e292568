use Rattle.gpu_alloc_freelist.proofs.RunsKept.{removed_sorted}
use Rattle.gpu_alloc_freelist.proofs.freelist.runs.Runs.remove.Goals as goal

pub invariant_of-self : goal.invariant_of-self
invariant_of-self g c =
    rw c.remove.ensures.items
    (removed_sorted c.self.inside.regions.items c.self.invariant c.args.index c.remove.result (rw (← c.self.view_is) at c.requires))
