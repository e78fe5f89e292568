use Rattle.std.proofs.Common.{rules, ◌≡◌, cond}
use Rattle.std.proofs.lemmas.Fn.{always_returns_same}
use Rattle.std.proofs.lemmas.List.Sorted.{IsPermutation-sym, Contains-permutation, sum_by-IsPermutation}
use Rattle.gpu_alloc_base.proofs.RangeOrder.{by_start, in_order}
use Rattle.gpu_alloc_base.proofs.range_order.put_in_order.Goals as goal

pub returns-clause-same : goal.returns-clause-same
returns-clause-same g c r =
    let old = c.args.ranges.now.items in
    let new = c.sort_unstable_by_key.new.self.items in
    let perm = c.sort_unstable_by_key.ensures.permutation in
    (Contains-permutation new old r (IsPermutation-sym old new perm), Contains-permutation old new r perm)

pub returns-clause-count : goal.returns-clause-count
returns-clause-count g c is =
    sum_by-IsPermutation (λ r. cond (is r) 1 0) c.args.ranges.now.items c.sort_unstable_by_key.new.self.items c.sort_unstable_by_key.ensures.permutation

pub returns-clause-order : goal.returns-clause-order
returns-clause-order g c =
    in_order c.args.ranges.now.items c.sort_unstable_by_key.new.self.items c.requires c.sort_unstable_by_key.ensures.permutation
    (c.sort_unstable_by_key.ensures.sorted by_start (always_returns_same _ (λ a r. r ≡ by_start a.0.now) _ (λ a r q k. search rules)))
