use Rattle.std.proofs.Common.{true, subst}
use Rattle.gpu_alloc_base.specs.Accounts.{Account, account}
use Rattle.gpu_alloc_freelist.specs.FreeListAllocator.{CallReleases}
use Rattle.gpu_alloc_freelist.specs.FreeListState.{FreeListState}
use Rattle.gpu_alloc_freelist.proofs.InHand.{live_same, releases_keep, releases_used}
use Rattle.gpu_alloc_freelist.proofs.freelist.FreeListAllocator.dealloc.Goals as goal

pub returns-clause-gives : goal.returns-clause-gives
returns-clause-gives g c =
    let now = account c.let_chunks_go.new.self c.let_chunks_go.new.heap c.let_chunks_go.new.allocations_remains in
    rw (← c.self.view_is, ← c.dealloc.ensures.device) (subst (λ (a : Account FreeListState). CallReleases g.D.ObjectDevice.step g.D.ObjectDevice.objects c.dealloc.new.device c.let_chunks_go.new.device true a now) c.dealloc.ensures.back c.let_chunks_go.ensures.gives)

pub returns-clause-frees : goal.returns-clause-frees
returns-clause-frees g c = let gives = returns-clause-gives g c in (gives.1.0, gives.1.1, (gives.0, (gives.1.2.0, gives.1.2.1.0)))

pub returns-clause-objects : goal.returns-clause-objects
returns-clause-objects g c = let gives = returns-clause-gives g c in (gives.0, (gives.1.2.0, gives.1.2.1.1))

pub returns-clause-removed : goal.returns-clause-removed
returns-clause-removed g c =
    let gives = c.let_chunks_go.ensures.gives in
    rw (← c.self.view_is, live_same (account c.dealloc.new.self.state c.dealloc.new.heap c.dealloc.new.allocations_remains) _ gives.0 gives.1.0 gives.1.2.1.0) c.dealloc.ensures.removed

pub returns-clause-settings : goal.returns-clause-settings
returns-clause-settings g c =
    let gives = returns-clause-gives g c in
    let kept = releases_keep _ _ gives.0 gives.1.0 gives.1.2.1.0 in
    record { final_chunk = kept.final_chunk; memory_type = kept.memory_type; props = kept.props; atom = kept.atom }

pub returns-clause-ledger : goal.returns-clause-ledger
returns-clause-ledger g c = let gives = returns-clause-gives g c in releases_used _ _ gives.0 gives.1.0 gives.1.2.1.0
