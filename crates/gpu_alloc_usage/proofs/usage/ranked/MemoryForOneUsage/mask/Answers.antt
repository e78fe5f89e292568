use Rattle.std.proofs.Common.{sym, subst, take}
use Rattle.gpu_alloc_usage.specs.Ranking.{IsMaskOf}
use Rattle.gpu_alloc_usage.proofs.Ranking.Masks.{with_bits_IsMaskOf}
use Rattle.gpu_alloc_usage.proofs.usage.ranked.MemoryForOneUsage.mask.Goals as goal

pub returns : goal.returns
returns c =
    let row = c.args.self.now in
    let types = take row.count row.types in
    subst (λ mask. IsMaskOf mask types) (sym row.exact) (with_bits_IsMaskOf types)
