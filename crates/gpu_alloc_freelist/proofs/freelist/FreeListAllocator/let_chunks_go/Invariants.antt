use Rattle.std.proofs.Common.{◌≡◌}
use Rattle.std.specs.FinMap as map
use Rattle.gpu_alloc_base.specs.Accounts.{Account, IsCounted, account, chunks_and_remaining}
use Rattle.gpu_alloc_freelist.specs.FreeListAllocator.{Agrees, CallReleases}
use Rattle.gpu_alloc_freelist.specs.FreeListSound.{IsSoundFreeList}
use Rattle.gpu_alloc_freelist.specs.FreeListState.{FreeListState}
use Rattle.gpu_alloc_freelist.proofs.freelist.FreeListAllocator.let_chunks_go.Given as goal

-- with what may go yet, the call releases what it has to
abbrev pub invariant-loop-self : goal.invariant-loop-self
invariant-loop-self g l = record {
  way : (end : g.row.D.Denot) (new : Account FreeListState) → CallReleases g.D.ObjectDevice.step g.D.ObjectDevice.objects l.device end l.keep_last (account l.self-inside.store.state l.heap l.allocations_remains) new
      → CallReleases g.D.ObjectDevice.step g.D.ObjectDevice.objects l.fn.device end l.keep_last (account l.fn.self l.fn.heap l.fn.allocations_remains) new;
  agrees : Agrees l.self-inside.store.state (g.D.ObjectDevice.properties l.device) (g.D.ObjectDevice.objects l.device);
  properties : g.D.ObjectDevice.properties l.device ≡ g.D.ObjectDevice.properties l.fn.device;
  sound : IsSoundFreeList l.self-inside.store.state;
  counted : IsCounted l.self-inside.store.state.space.chunks l.heap l.allocations_remains;
  total : chunks_and_remaining l.self-inside.store.state.space.chunks l.allocations_remains ≡ chunks_and_remaining l.fn.self.space.chunks l.fn.allocations_remains;
}

abbrev pub decreases-loop-self : goal.decreases-loop-self
decreases-loop-self g l = map.len l.self-inside.store.state.space.chunks
