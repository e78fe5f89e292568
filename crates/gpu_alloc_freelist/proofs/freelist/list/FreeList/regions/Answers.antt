use Rattle.gpu_alloc_freelist.proofs.FewRuns.{few_runs}
use Rattle.gpu_alloc_freelist.proofs.FreeListGrants.{regions_are_runs}
use Rattle.gpu_alloc_freelist.proofs.freelist.list.FreeList.regions.Goals as goal

pub returns-clause-runs : goal.returns-clause-runs
returns-clause-runs g c = rw (← c.self.view_is, c.as_slice.ensures) (regions_are_runs _ c.self.inside.runs.regions c.self.invariant.runs)

pub returns-clause-rising : goal.returns-clause-rising
returns-clause-rising g c = rw c.as_slice.ensures c.self.invariant.runs.rising

pub returns-clause-few : goal.returns-clause-few
returns-clause-few g c =
    rw (← c.self.view_is, c.as_slice.ensures)
    (few_runs _ c.self.inside.runs.regions (λ r. (regions_are_runs _ c.self.inside.runs.regions c.self.invariant.runs r).0) c.self.invariant.runs.rising)
