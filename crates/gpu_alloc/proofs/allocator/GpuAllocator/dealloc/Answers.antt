use Rattle.gpu_alloc.proofs.Agreed.{chain_keeps}
use Rattle.gpu_alloc.proofs.BlocksAgreed.{return_keeps_blocks}
use Rattle.gpu_alloc.proofs.GoneBack.{return_goes_back}
use Rattle.gpu_alloc.proofs.InHand.{return_in_hand}
use Rattle.gpu_alloc.proofs.Owning.{frees_remove}
use Rattle.gpu_alloc.proofs.ReturnedTotals.{frees_total}
use Rattle.gpu_alloc.proofs.allocator.GpuAllocator.dealloc.Goals as goal

pub returns-clause-removed : goal.returns-clause-removed
returns-clause-removed g c = frees_remove c.args.self.now c.args.block _ _ c.put_back.ensures.freed.2 c.put_back.ensures.sound c.requires.owned

pub returns-clause-total : goal.returns-clause-total
returns-clause-total g c = frees_total c.args.self.now c.args.block _ _ c.requires.owned c.put_back.ensures.freed.2

pub returns-clause-properties : goal.returns-clause-properties
returns-clause-properties g c = chain_keeps g.D.ObjectDevice.step g.D.ObjectDevice.properties g.met.D.ObjectDevice.keeps_properties _ _ _ c.put_back.ensures.freed.1

pub returns-clause-keeps : goal.returns-clause-keeps
returns-clause-keeps g c =
    let freed = c.put_back.ensures.freed in
    return_keeps_blocks c.args.self.now _ _ _ _ (returns-clause-properties g c) c.args.block freed.0 _ freed.2 c.put_back.ensures.objects

pub returns-clause-gone : goal.returns-clause-gone
returns-clause-gone g c =
    let freed = c.put_back.ensures.freed in
    return_goes_back g.D.ObjectDevice.step g.D.ObjectDevice.objects c.args.self.now _ _ _ (returns-clause-total g c) freed.0 freed.1 c.args.block c.requires.owned freed.2 c.put_back.ensures.objects

pub returns-clause-in_hand : goal.returns-clause-in_hand
returns-clause-in_hand g c = return_in_hand g.D.ObjectDevice.step g.D.ObjectDevice.objects c.args.self.now _ _ _ (returns-clause-gone g c) _ _ c.args.block (returns-clause-keeps g c) (returns-clause-removed g c)
