use Rattle.std.proofs.Common.{ℕ, ◌≡◌, ◌∙◌, Bool, if◌then◌else◌, sym, rules, arith, List, [], ◌∷◌, ◌++◌}
use Rattle.std.proofs.lemmas.Grind.{common_steps}
use Rattle.std.proofs.lemmas.List.{append_assoc}
use Rattle.gpu_alloc_types.specs.Flags.{usage_bits}
use Rattle.gpu_alloc_usage.specs.KeyByKey.{of_key}
use Rattle.gpu_alloc_usage.proofs.Ranking.Steps.{of_key-more, of_key-room}
use Rattle.gpu_alloc_usage.proofs.usage.ranked.MemoryForOneUsage.add_key.Goals as goal

pub loop-index-init : goal.loop-index-init
unfolding of_key
loop-index-init c = search rules

pub add_where-requires : goal.add_where-requires
add_where-requires c =
    record {
      room = λ is_one.
          let h = of_key-room (usage_bits c.args.usage) c.args.key c.loop-index.index c.args.memory_types.now _ c.loop-index-test.true (sym c.has_key-has_key.ensures ∙ is_one) in
          rw c.loop-index.invariant (grind (arith, common_steps));
      bit = omega arith;
    }

joined : (new old before part more : List ℕ) (i : ℕ) (tested has : Bool) → new ≡ old ++ (if tested then i ∷ [] else []) → tested ≡ has → old ≡ before ++ part → more ≡ part ++ (if has then i ∷ [] else []) → new ≡ before ++ more
joined new old before part more i tested has a same b c = rw (a, same, b, c) (append_assoc before part (if has then i ∷ [] else []))

pub loop-index-preserved : goal.loop-index-preserved
loop-index-preserved c =
    let more = of_key-more (usage_bits c.args.usage) c.args.key c.loop-index.index c.args.memory_types.now _ c.loop-index-test.true in
    joined _ _ _ _ _ _ _ _ c.add_where.ensures c.has_key-has_key.ensures c.loop-index.invariant more
