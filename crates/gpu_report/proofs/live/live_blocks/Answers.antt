use Rattle.std.proofs.Common.{◌≡◌, ◌∙◌, ◌++◌, [], ◌∷◌, List, map, take, get_or, Contains, All, sym, ap, subst}
use Rattle.std.proofs.lemmas.List.{take_all, take_more, map-append}
use Rattle.std.proofs.lemmas.List.Elements.{All-push, Contains-get_or}
use Rattle.std.specs.FinSet as set
use Rattle.std.specs.List.Sorted.{IsNonDecreasingBy}
use Rattle.gpu_alloc.specs.Listing.{AreOnce}
use Rattle.gpu_alloc.specs.Spans.{span_in}
use Rattle.gpu_alloc.specs.State.{Span, span_cmp}
use Rattle.gpu_alloc_base.specs.declared.buddy_block.Leaf.{Leaf as LiveSpan}
use Rattle.gpu_alloc_base.proofs.ListViews.{contains_name}
use Rattle.gpu_report.specs.Live.{live_block_span}
use Rattle.gpu_report.specs.declared.live.LiveBlock.{LiveBlock}
use Rattle.gpu_report.proofs.Members.{from_mapped}
use Rattle.gpu_report.proofs.Spans.{live_listed, told_rises}
use Rattle.gpu_report.proofs.live.live_blocks.Goals as goal

abbrev nothing : LiveSpan
nothing = record { object = 0; offset = 0; size = 0; chunk = 0; index = 0 }

pub loop-span-preserved : goal.loop-span-preserved
loop-span-preserved g c =
    let xs = c.deref-span-items.result.now in
    let i = c.loop-span.span-index in
    let items = c.in_ok-push-in-Some.ensures.items in
    let same : live_block_span c.in-Some.block ≡ span_in (get_or xs i nothing) = c.in-Some.ensures.1 in
    let has = subst (λ (bs : List LiveBlock). Contains bs c.in-Some.block) c.deref.ensures.value c.in-Some.ensures.0 in
    record {
      told = ap (map live_block_span) items ∙ map-append live_block_span c.loop-span.live.items (c.in-Some.block ∷ [])
          ∙ (λ k. c.loop-span.invariant.told k ++ same k ∷ [])
          ∙ sym (ap (map span_in) (take_more xs i nothing c.loop-span-test.true) ∙ map-append span_in (take i xs) (get_or xs i nothing ∷ []));
      given = subst (All (Contains c.args.blocks.now)) (sym items)
          (All-push (Contains c.args.blocks.now) c.loop-span.live.items c.in-Some.block c.loop-span.invariant.given ((c.in_ok-sorted.ensures.same c.in-Some.block).0 has));
    }

pub returns-clause-live : goal.returns-clause-live
returns-clause-live g c =
    let xs = c.deref-span-items.result.now in
    let all : map live_block_span c.loop-span.live.items ≡ map span_in xs =
    c.loop-span.invariant.told ∙ ap (map span_in) (take_all c.loop-span.span-index xs c.loop-span-test.false) in
    let is = c.deref-span-items.ensures.value in
    record {
      exact = ap (λ (s : List Span). set.from_list {R = span_cmp} s) (all ∙ ap (map span_in) is) ∙ c.in_ok-spans.ensures.exact;
      once = subst AreOnce (sym (all ∙ ap (map span_in) is)) c.in_ok-spans.ensures.once;
      by_object = told_rises c.loop-span.live.items xs all (subst (IsNonDecreasingBy (λ (s : LiveSpan). s.object)) (sym is) c.in_ok-spans.ensures.by_object);
    }

pub returns-in-None-clause-missing : goal.returns-in-None-clause-missing
returns-in-None-clause-missing g c =
    let xs = c.deref-span-items.result.now in
    let i = c.loop-span.span-index in
    let has = contains_name span_in xs (get_or xs i nothing) (Contains-get_or xs i nothing c.loop-span-test.true) in
    record {
      span = span_in (get_or xs i nothing);
      live = live_listed c.args.allocator.now (map span_in xs)
          (subst (λ (ys : List LiveSpan). set.from_list (map span_in ys) ≡ c.args.allocator.now.live) (sym c.deref-span-items.ensures.value) c.in_ok-spans.ensures.exact)
          (span_in (get_or xs i nothing)) has;
      lacks = λ there.
          let b = from_mapped live_block_span c.args.blocks.now (span_in (get_or xs i nothing)) there in
          let sorted = subst (λ (bs : List LiveBlock). Contains bs b.0) (sym c.deref.ensures.value) ((c.in_ok-sorted.ensures.same b.0).1 b.1) in
          c.in-None.ensures (subst (Contains (map live_block_span c.deref.result.now)) b.2 (contains_name live_block_span c.deref.result.now b.0 sorted));
    }
