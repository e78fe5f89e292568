use Rattle.std.proofs.Common.{◌∙◌, ◌==◌, filter, length, not, ap}
use Rattle.gpu_alloc_types.specs.Flags.{usage_bits}
use Rattle.gpu_alloc_usage.specs.Ranking.{is_allowed, row}
use Rattle.gpu_alloc_usage.proofs.Ranking.Candidates.{candidates-from_table}
use Rattle.gpu_alloc.proofs.allocator.GpuAllocator.has_candidate.Goals as goal

pub returns : goal.returns
returns g c =
    let limits = c.self.inside.limits in
    let same = ap (λ u. filter (is_allowed c.args.request.memory_types) (row limits.memory_for_usage u)) c.requires.meant
    ∙ candidates-from_table limits.memory_types.items limits.memory_for_usage limits.ranked (usage_bits c.args.request.usage) c.args.request.memory_types in
    rw (← c.self.view_is) (c.has_any.ensures ∙ ap (λ ts. not (length ts == 0)) same)
