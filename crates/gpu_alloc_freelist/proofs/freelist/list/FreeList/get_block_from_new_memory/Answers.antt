use Rattle.std.proofs.Common.{refl}
use Rattle.gpu_alloc_freelist.proofs.ListInHand.{same_leaves}
use Rattle.gpu_alloc_freelist.proofs.freelist.list.FreeList.get_block_from_new_memory.Goals as goal

pub returns-in-Err-clause-leaves : goal.returns-in-Err-clause-leaves
returns-in-Err-clause-leaves g c = same_leaves c.args.self.now.space c.args.self.now.space refl
