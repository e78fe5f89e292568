use Rattle.gpu_alloc_base.specs.Accounts.{account}
use Rattle.gpu_alloc_freelist.proofs.InHand.{releases_all, releases_keep, releases_leave, releases_used}
use Rattle.gpu_alloc_freelist.proofs.freelist.FreeListAllocator.cleanup.Goals as goal

pub returns-clause-leaves : goal.returns-clause-leaves
returns-clause-leaves g c = let gives = c.let_chunks_go.ensures.gives in releases_leave (account c.args.self.now c.args.heap.now c.args.allocations_remains.now) _ gives.0 gives.1.0 gives.1.2.1.0

pub returns-clause-rest : goal.returns-clause-rest
returns-clause-rest g c = let gives = c.let_chunks_go.ensures.gives in releases_all (account c.args.self.now c.args.heap.now c.args.allocations_remains.now) _ gives.0 gives.1.0 gives.1.2.1.0 c.let_chunks_go.ensures.left

pub returns-clause-settings : goal.returns-clause-settings
returns-clause-settings g c = let gives = c.let_chunks_go.ensures.gives in releases_keep (account c.args.self.now c.args.heap.now c.args.allocations_remains.now) _ gives.0 gives.1.0 gives.1.2.1.0

pub returns-clause-ledger : goal.returns-clause-ledger
returns-clause-ledger g c = let gives = c.let_chunks_go.ensures.gives in releases_used (account c.args.self.now c.args.heap.now c.args.allocations_remains.now) _ gives.0 gives.1.0 gives.1.2.1.0
