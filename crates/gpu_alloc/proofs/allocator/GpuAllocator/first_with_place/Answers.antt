use Rattle.std.proofs.Common.{◌≡◌, ◌<◌, ◌≤◌, length, get_or, add-one, true}
use Rattle.gpu_alloc_types.specs.Flags.{usage_bits}
use Rattle.gpu_alloc_usage.specs.Ranking.{is_allowed, named, ranking}
use Rattle.gpu_alloc_usage.proofs.Ranking.Candidates.{ranking-within}
use Rattle.gpu_alloc.specs.Allocation.{asked_of}
use Rattle.gpu_alloc.specs.HeldOnly.{HasPlaceFor, IsFirstWithPlace}
use Rattle.gpu_alloc.proofs.HeldOnly.{looks_as_meant, looks_end, looks_found, looks_next, looks_past}
use Rattle.gpu_alloc.proofs.Trials.{allowed_by_shift, not_by_shift}
use Rattle.gpu_alloc.proofs.allocator.GpuAllocator.first_with_place.Goals as goal
use Rattle.gpu_alloc.proofs.allocator.GpuAllocator.first_with_place.Goals.{else-permitted-via-then-permitted+else-has_place_asked, else-permitted-via-else-permitted}

pub has_place_asked-requires-clause-known : goal.has_place_asked-requires-clause-known
has_place_asked-requires-clause-known g c =
    let inside : c.loop-rank.rank < length c.ranked.result.now = rw (c.ranked.ensures.ranked, ← c.ranked-rank-end.ensures.ranked) c.loop-rank-test.true in
    let within = ranking-within (named (usage_bits c.args.usage)) c.args.self.now.properties.memory_types c.loop-rank.rank 0 (rw (← c.ranked.ensures.ranked) inside) in
    rw c.ranked.ensures.ranked within

pub returns-then-has_place_asked-clause-first : goal.returns-then-has_place_asked-clause-first
returns-then-has_place_asked-clause-first g c =
    let s = c.args.self.now in
    let asked = asked_of s c.args.request.now c.args.hint c.args.paged.now in
    let row = ranking (named (usage_bits c.args.usage)) s.properties.memory_types in
    let inside : c.loop-rank.rank < length row = rw (← c.ranked-rank-end.ensures.ranked) c.loop-rank-test.true in
    let allowed : is_allowed c.args.request.now.memory_types (get_or row c.loop-rank.rank 0) ≡ true = allowed_by_shift c.args.request.now.memory_types (get_or row c.loop-rank.rank 0) (rw c.ranked.ensures.ranked at c.if-permitted.true) in
    let place : HasPlaceFor s asked (get_or row c.loop-rank.rank 0) = rw c.ranked.ensures.ranked at c.has_place_asked.ensures.0 c.if-has_place_asked.true in
    let found : IsFirstWithPlace s asked _ _ = looks_found s asked (is_allowed c.args.request.now.memory_types) row c.loop-rank.rank inside allowed place c.loop-rank.invariant in
    rw c.ranked.ensures.ranked (looks_as_meant s c.args.request.now asked (usage_bits c.args.usage) _ c.requires.meant found)

pub loop-rank-preserved : goal.loop-rank-preserved
loop-rank-preserved g c =
    let s = c.args.self.now in
    let asked = asked_of s c.args.request.now c.args.hint c.args.paged.now in
    let row = ranking (named (usage_bits c.args.usage)) s.properties.memory_types in
    let inside : c.loop-rank.rank < length row = rw (← c.ranked-rank-end.ensures.ranked) c.loop-rank-test.true in
    elim c.else-permitted.branch [
      | else-permitted-via-then-permitted+else-has_place_asked w ↦
          let allowed : is_allowed c.args.request.now.memory_types (get_or row c.loop-rank.rank 0) ≡ true = allowed_by_shift c.args.request.now.memory_types (get_or row c.loop-rank.rank 0) (rw c.ranked.ensures.ranked at w.if-permitted.true) in
          let none : HasPlaceFor s asked (get_or row c.loop-rank.rank 0) → ⊥ = λ place. let yes = w.has_place_asked.ensures.1 (rw c.ranked.ensures.ranked place) in let no = w.if-has_place_asked.false in absurd (cc) in
          rw add-one (looks_next s asked (is_allowed c.args.request.now.memory_types) row c.loop-rank.rank inside allowed none c.loop-rank.invariant)
      | else-permitted-via-else-permitted w ↦
          let past = not_by_shift c.args.request.now.memory_types (get_or row c.loop-rank.rank 0) (rw c.ranked.ensures.ranked at w.if-permitted.false) in
          rw add-one (looks_past s asked (is_allowed c.args.request.now.memory_types) row c.loop-rank.rank inside past c.loop-rank.invariant)
    ]

pub returns-clause-first : goal.returns-clause-first
returns-clause-first g c =
    let s = c.args.self.now in
    let asked = asked_of s c.args.request.now c.args.hint c.args.paged.now in
    let row = ranking (named (usage_bits c.args.usage)) s.properties.memory_types in
    let past : length row ≤ c.loop-rank.rank = rw (← c.ranked-rank-end.ensures.ranked) c.loop-rank-test.false in
    looks_as_meant s c.args.request.now asked (usage_bits c.args.usage) _ c.requires.meant (looks_end s asked (is_allowed c.args.request.now.memory_types) row c.loop-rank.rank past c.loop-rank.invariant)
