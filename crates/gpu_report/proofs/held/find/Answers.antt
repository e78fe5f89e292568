use Rattle.std.proofs.Common.{◌≡◌, rules}
use Rattle.std.proofs.lemmas.Fn.{always_returns_same}
use Rattle.gpu_report.proofs.HeldRows.{beside, found_row, missed_row}
use Rattle.gpu_report.proofs.held.find.Goals as goal

pub returns-in-Ok : goal.returns-in-Ok
returns-in-Ok c =
    let rows = c.args.held.now in
    let x = c.args.object in
    found_row rows x c.in-Ok.index _ c.requires.once c.in-Ok.ensures.bound
    (c.in-Ok.ensures.position (beside rows x) (always_returns_same _ (λ a r. r ≡ beside rows x a.0.now) _ (λ a r f' called. search rules)))

pub returns-in-Err : goal.returns-in-Err
returns-in-Err c =
    let rows = c.args.held.now in
    let x = c.args.object in
    missed_row rows x c.in-Err.field-0 c.requires.rising
    (c.in-Err.ensures.position (beside rows x) (always_returns_same _ (λ a r. r ≡ beside rows x a.0.now) _ (λ a r f' called. search rules)))
