use Rattle.std.proofs.Common.{subst, List, ℕ, None}
use Rattle.gpu_report.proofs.GoingOn.{goes_on, row_more}
use Rattle.gpu_report.specs.Text.{place_text}
use Rattle.gpu_report.specs.Writing.{GoesOn}
use Rattle.gpu_report.specs.DeskReport.{user_of}
use Rattle.gpu_report.proofs.text.put_places.Goals as goal

pub loop-index-preserved : goal.loop-index-preserved
loop-index-preserved c =
    let lead = rw c.lead.ensures at c.put_words-end.ensures in
    subst (λ (xs : List ℕ). GoesOn c.args.text.now c.args.at xs c.put_place-end.new.text c.put_place-end.result)
    (row_more (place_text (user_of c.args.desk.now)) c.args.places.now c.loop-index.index (record { block = None; offset = 0; size = 0; asked = 0 }) c.loop-index-test.true)
    (goes_on c.loop-index.invariant (goes_on lead c.put_place-end.ensures))
