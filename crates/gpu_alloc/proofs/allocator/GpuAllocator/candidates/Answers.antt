use Rattle.std.proofs.Common.{◌≡◌, ◌∙◌, ◌≤◌, filter, length, ap, arith}
use Rattle.std.proofs.lemmas.List.{take_all}
use Rattle.gpu_alloc_types.specs.Flags.{usage_bits}
use Rattle.gpu_alloc_usage.specs.Ranking.{implied, is_allowed, named, ranking}
use Rattle.gpu_alloc_usage.proofs.Ranking.Candidates.{implied-named}
use Rattle.gpu_alloc.proofs.allocator.GpuAllocator.candidates.Goals as goal

pub returns : goal.returns
returns g c =
    let same : named (usage_bits c.meaning.result) ≡ implied (usage_bits c.args.usage) = ap named c.meaning.ensures ∙ implied-named (usage_bits c.args.usage) in
    let past : length c.ranked-ranked.result.now ≤ c.loop-rank.rank = omega (arith, c.loop-rank-test.false) in
    c.loop-rank.invariant.allowed ∙ ap (filter (is_allowed c.args.memory_types)) (take_all c.loop-rank.rank c.ranked-ranked.result.now past)
    ∙ ap (filter (is_allowed c.args.memory_types)) (c.ranked-ranked.ensures.ranked ∙ ap (λ u. ranking u c.args.self.now.properties.memory_types) same)
