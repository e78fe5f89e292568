use Rattle.std.proofs.Common.{◌<◌, ◌≤◌, ◌≡◌, length, get_or, true, false, arith, rules}
use Rattle.std.proofs.lemmas.List.Elements.{Contains-get_or}
use Rattle.gpu_alloc_types.specs.Flags.{usage_bits}
use Rattle.gpu_alloc_types.specs.Properties.{heap_size}
use Rattle.gpu_alloc_usage.specs.Ranking.{named, ranking}
use Rattle.gpu_alloc_usage.proofs.Ranking.Candidates.{ranking-within}
use Rattle.gpu_alloc.proofs.Serving.{found, none_found}
use Rattle.gpu_alloc.proofs.Trials.{allowed_by_shift}
use Rattle.gpu_alloc.proofs.allocator.GpuAllocator.can_ever_serve.Goals as goal

pub heap_size-requires : goal.heap_size-requires
heap_size-requires g c =
    let inside : c.loop-rank.rank < length c.ranked.result.now = rw (c.ranked.ensures.ranked, ← c.ranked-rank-end.ensures.ranked) c.loop-rank-test.true in
    let within = ranking-within (named (usage_bits c.meaning-usage.result)) c.args.self.now.properties.memory_types c.loop-rank.rank 0 (rw (← c.ranked.ensures.ranked) inside) in
    rw c.ranked.ensures.ranked within

pub returns-then-request-heap_size : goal.returns-then-request-heap_size
returns-then-request-heap_size g c =
    let row = ranking (named (usage_bits c.meaning-usage.result)) c.args.self.now.properties.memory_types in
    let inside : c.loop-rank.rank < length row = rw (← c.ranked-rank-end.ensures.ranked) c.loop-rank-test.true in
    let allowed = allowed_by_shift c.args.request.memory_types (get_or row c.loop-rank.rank 0) (rw c.ranked.ensures.ranked at c.if-permitted.true) in
    let small : c.args.request.size ≤ c.args.self.now.properties.max_memory_allocation_size = omega (arith, c.max_allocation_size.ensures) in
    let enough : c.args.request.size ≤ heap_size c.args.self.now.properties (get_or row c.loop-rank.rank 0) = rw (← c.ranked.ensures.ranked) (omega (arith, c.heap_size.ensures)) in
    let may = found c.args.self.now c.args.request (usage_bits c.meaning-usage.result) c.meaning-usage.ensures (get_or row c.loop-rank.rank 0) (Contains-get_or row c.loop-rank.rank 0 inside) allowed small enough in
    (λ _. may, λ _. search rules)

pub returns : goal.returns
returns g c =
    let row = ranking (named (usage_bits c.meaning-usage.result)) c.args.self.now.properties.memory_types in
    let past : length row ≤ c.loop-rank.rank = rw (← c.ranked-rank-end.ensures.ranked) c.loop-rank-test.false in
    let none = none_found c.args.self.now c.args.request (usage_bits c.meaning-usage.result) c.meaning-usage.ensures (λ k inside allowed. c.loop-rank.invariant k (omega (arith, inside, past)) allowed) in
    (λ yes. absurd (let n : false ≡ true = yes in cc), λ may. absurd (none may))
