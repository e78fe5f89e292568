use Rattle.std.proofs.Common.{◌∙◌, arith}
use Rattle.gpu_alloc_types.specs.Flags.{usage_bits}
use Rattle.gpu_alloc_usage.specs.Ranking.{named}
use Rattle.gpu_alloc_usage.proofs.Ranking.Candidates.{ranking-within}
use Rattle.gpu_alloc.proofs.allocator.GpuAllocator.ranked.Goals as goal

pub returns-clause-few : goal.returns-clause-few
returns-clause-few g c k d inside =
    let types = c.self.inside.limits.memory_types.items in
    let same = c.types.ensures ∙ c.self.inside.limits.ranked.ranked (usage_bits c.args.usage) in
    let few = c.self.invariant.books.usable.types in
    let known = ranking-within (named (usage_bits c.args.usage)) types k d (rw (← same) inside) in
    rw same (omega (arith, known, few))
