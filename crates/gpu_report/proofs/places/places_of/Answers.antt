use Rattle.std.proofs.Common.{rules, subst}
use Rattle.std.specs.List.Sorted.{IsPermutation}
use Rattle.std.proofs.lemmas.List.Sorted.{IsNonDecreasingBy-from_sort_by_key}
use Rattle.gpu_report.proofs.places.places_of.Goals as goal

pub returns : goal.returns
returns c = record {
  each = subst (λ xs. IsPermutation xs c.sort_unstable_by_key.new.self.items) c.in_ok-places.ensures c.sort_unstable_by_key.ensures.permutation;
  rising = IsNonDecreasingBy-from_sort_by_key (λ p. p.offset) _ c.sort_unstable_by_key.ensures.sorted (λ a r f' called. search rules);
}
