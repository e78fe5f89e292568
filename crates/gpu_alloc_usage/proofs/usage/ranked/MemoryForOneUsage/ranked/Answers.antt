use Rattle.std.proofs.Common.{◌+◌, ◌≡◌, ◌∙◌, refl, rules, arith}
use Rattle.std.proofs.lemmas.Grind.{common_steps}
use Rattle.gpu_alloc_types.specs.Flags.{usage_bits}
use Rattle.gpu_alloc_usage.specs.KeyByKey.{below_key}
use Rattle.gpu_alloc_usage.proofs.Ranking.Order.{ranking-from_keys}
use Rattle.gpu_alloc_usage.proofs.Ranking.Steps.{length-below_key-le, below_key-more}
use Rattle.gpu_alloc_usage.proofs.usage.ranked.MemoryForOneUsage.ranked.Goals as goal

pub loop-key-init : goal.loop-key-init
unfolding below_key
loop-key-init c = search rules

pub add_key-requires-clause-room : goal.add_key-requires-clause-room
add_key-requires-clause-room c =
    let usage = usage_bits c.args.usage in
    let types = c.args.memory_types.now in
    let few = rw (below_key-more usage c.loop-key.key types) at (length-below_key-le usage (c.loop-key.key + 1) types) in
    rw c.loop-key.invariant (grind (arith, common_steps))

pub loop-key-preserved : goal.loop-key-preserved
loop-key-preserved c =
    rw (c.add_key.ensures, below_key-more (usage_bits c.args.usage) c.loop-key.key c.args.memory_types.now, c.loop-key.invariant) refl

pub returns : goal.returns
returns c =
    let usage = usage_bits c.args.usage in
    let types = c.args.memory_types.now in
    let all_keys : c.loop-key.key ≡ 16 = omega arith in
    rw all_keys at c.loop-key.invariant ∙ ranking-from_keys usage types
