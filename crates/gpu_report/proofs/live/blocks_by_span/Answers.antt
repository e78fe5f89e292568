use Rattle.std.proofs.Common.{◌≡◌, rules, sym, subst, List}
use Rattle.std.proofs.lemmas.Fn.{always_returns_same}
use Rattle.std.proofs.lemmas.List.Sorted.{IsPermutation-sym, Contains-permutation, ranks_by}
use Rattle.std.specs.List.{Contains}
use Rattle.std.specs.Ordering.{is_lt}
use Rattle.gpu_alloc.specs.State.{span_cmp}
use Rattle.gpu_alloc_block.proofs.LiveSpans.{span_total}
use Rattle.gpu_report.specs.Live.{live_block_span}
use Rattle.gpu_report.specs.declared.live.LiveBlock.{LiveBlock}
use Rattle.gpu_report.proofs.live.blocks_by_span.Goals as goal

pub returns-clause-same : goal.returns-clause-same
returns-clause-same c b =
    let old = c.in_ok-sorted.sorted.items in
    let new = c.sort_unstable_by.new.self.items in
    let perm = c.sort_unstable_by.ensures.permutation in (
      λ has. subst (λ (xs : List LiveBlock). Contains xs b) c.in_ok-sorted.ensures.items (Contains-permutation new old b (IsPermutation-sym old new perm) has),
      λ has. Contains-permutation old new b perm (subst (λ (xs : List LiveBlock). Contains xs b) (sym c.in_ok-sorted.ensures.items) has),
    )

pub returns-clause-sorted : goal.returns-clause-sorted
returns-clause-sorted c =
    let before = λ (x y : LiveBlock). is_lt (span_cmp (live_block_span x) (live_block_span y)) in
    c.sort_unstable_by.ensures.sorted before (ranks_by span_total live_block_span)
    (always_returns_same _ (λ a r. is_lt r ≡ before a.0.now a.1.0.now) _ (λ a r f' called. search rules))
