use Rattle.gpu_alloc_runs.proofs.Empty.{empty_space, empty_stored}
use Rattle.gpu_alloc_runs.proofs.Ends.{none_last}
use Rattle.gpu_alloc_runs.proofs.Filed.{none_are_filed}
use Rattle.gpu_alloc_runs.proofs.fits.Fits.new.Goals as goal

pub invariant_of-result : goal.invariant_of-result
invariant_of-result g c =
    let stored = empty_stored g.M.MemoryObject.object c.new.result c.new-2.result c.new.ensures.empty c.new-2.ensures.empty in
    record {
      stored = stored;
      filed = none_are_filed c.new-2.result c.new-3.result c.new-2.ensures.empty c.new-3.ensures.marked c.new-3.ensures.empty;
      whole_last = none_last g.M.MemoryObject.object c.new.result c.new-2.result stored;
    }

pub returns : goal.returns
returns g c = record { empty = empty_space g.M.MemoryObject.object c.new.result c.new-2.result c.new.ensures.empty c.new-2.ensures.empty }
