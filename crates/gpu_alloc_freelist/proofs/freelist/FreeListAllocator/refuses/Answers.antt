use Rattle.gpu_alloc_base.specs.Accounts.{account}
use Rattle.gpu_alloc_base.specs.Wanted.{wanted}
use Rattle.gpu_alloc_freelist.proofs.FreeListAnswers.{refuses_so}
use Rattle.gpu_alloc_freelist.proofs.freelist.FreeListAllocator.refuses.Goals as goal

pub returns : goal.returns
returns g c = λ flags.
    rw (← c.self.view_is) (refuses_so (account c.self.inside.store.state c.args.heap.now c.args.allocations_remains) (wanted c.args.size c.args.align_mask flags) c.refuses.ensures.sound c.refuses.result (c.refuses.ensures.refuses flags))
