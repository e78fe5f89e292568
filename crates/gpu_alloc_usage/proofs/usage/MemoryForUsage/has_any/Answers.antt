use Rattle.gpu_alloc_usage.proofs.Ranking.Candidates.{has_any_by_masks}
use Rattle.gpu_alloc_usage.proofs.usage.MemoryForUsage.has_any.Goals as goal

pub returns : goal.returns
returns c = has_any_by_masks c.mask.result c.args.mask _ c.mask.type_inv c.mask.ensures
