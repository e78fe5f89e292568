use Rattle.std.proofs.Common.{sym, ◌∙◌}
use Rattle.gpu_alloc_block.proofs.Lists.{none_kept}
use Rattle.gpu_clients.proofs.resources.ResourceManager.with_granularity.Goals as goal

pub invariant_of-result : goal.invariant_of-result
invariant_of-result g c =
    let none = c.new-in-Ok.ensures.none in
    record {
      agrees = c.agrees_at_first.ensures;
      kept = none_kept none.none;
      count = c.in-Ok.ensures.empty.live ∙ sym none.count;
      pages = c.requires.granularity;
    }

pub agrees_at_first-requires : goal.agrees_at_first-requires
agrees_at_first-requires g c = rw c.requires.same c.in-Ok.ensures.empty
