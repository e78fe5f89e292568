use Rattle.std.proofs.Common.{◌≡◌, rules}
use Rattle.std.proofs.lemmas.Fn.{always_returns_same}
use Rattle.gpu_alloc.specs.Spans.{span_in}
use Rattle.gpu_report.proofs.Finding.{beside, found, missing}
use Rattle.gpu_report.proofs.live.find.Goals as goal

pub returns-in-Ok : goal.returns-in-Ok
returns-in-Ok c =
    let blocks = c.args.blocks.now in
    let x = span_in c.args.span.now in
    found blocks x c.in-Ok.index _ c.in-Ok.ensures.bound
    (c.in-Ok.ensures.position (beside blocks x) (always_returns_same _ (λ a r. r ≡ beside blocks x a.0.now) _ (λ a r f' called. search rules)))

pub returns-in-Err : goal.returns-in-Err
returns-in-Err c =
    let blocks = c.args.blocks.now in
    let x = span_in c.args.span.now in
    missing blocks x c.in-Err.field-0 c.requires
    (c.in-Err.ensures.position (beside blocks x) (always_returns_same _ (λ a r. r ≡ beside blocks x a.0.now) _ (λ a r f' called. search rules)))
