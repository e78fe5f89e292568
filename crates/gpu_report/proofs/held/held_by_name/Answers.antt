use Rattle.std.proofs.Common.{rules}
use Rattle.std.proofs.lemmas.List.Sorted.{IsNonDecreasingBy-from_sort_by_key}
use Rattle.gpu_report.proofs.HeldRows.{held_sorted}
use Rattle.gpu_report.proofs.held.held_by_name.Goals as goal

pub returns-clause-held : goal.returns-clause-held
returns-clause-held g c =
    held_sorted c.args.allocator.now c.in_ok-rows.rows.items c.sort_unstable_by_key.new.self.items c.in_ok-rows.ensures.exact c.in_ok-rows.ensures.once c.sort_unstable_by_key.ensures.permutation
    (IsNonDecreasingBy-from_sort_by_key (λ e. e.0) _ c.sort_unstable_by_key.ensures.sorted (λ a r f' called. search rules))
