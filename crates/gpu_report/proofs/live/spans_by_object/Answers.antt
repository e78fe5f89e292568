use Rattle.std.proofs.Common.{rules, ◌∙◌}
use Rattle.std.proofs.lemmas.List.Sorted.{IsNonDecreasingBy-from_sort_by_key, IsPermutation-map}
use Rattle.gpu_alloc.specs.Spans.{span_in}
use Rattle.gpu_report.proofs.Spans.{once_permuted, set_permuted}
use Rattle.gpu_report.proofs.live.spans_by_object.Goals as goal

pub returns-clause-exact : goal.returns-clause-exact
returns-clause-exact g c =
    set_permuted _ _ (IsPermutation-map span_in c.in_ok-spans.spans.items c.sort_unstable_by_key.new.self.items c.sort_unstable_by_key.ensures.permutation) ∙ c.in_ok-spans.ensures.exact

pub returns-clause-once : goal.returns-clause-once
returns-clause-once g c =
    once_permuted _ _ (IsPermutation-map span_in c.in_ok-spans.spans.items c.sort_unstable_by_key.new.self.items c.sort_unstable_by_key.ensures.permutation) c.in_ok-spans.ensures.once

pub returns-clause-by_object : goal.returns-clause-by_object
returns-clause-by_object g c = IsNonDecreasingBy-from_sort_by_key (λ span. span.object) _ c.sort_unstable_by_key.ensures.sorted (λ a r f' called. search rules)
