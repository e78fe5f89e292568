use Rattle.std.proofs.Common.{subst, List, ℕ, sym}
use Rattle.gpu_report.proofs.GoingOn.{goes_on, row_more}
use Rattle.gpu_report.specs.DeskReport.{user_of}
use Rattle.gpu_report.specs.Text.{object_text}
use Rattle.gpu_report.specs.Writing.{GoesOn}
use Rattle.gpu_report.proofs.text.put_objects.Goals as goal

pub loop-index-preserved : goal.loop-index-preserved
loop-index-preserved c =
    let lead = rw c.lead.ensures at c.put_words-end.ensures in
    let o = c.index-objects-index.result in
    let row = row_more (object_text (user_of c.args.desk.now)) c.args.objects.now c.loop-index.index o c.loop-index-test.true in
    subst (λ (xs : List ℕ). GoesOn c.args.text.now c.args.at xs c.put_object-end.new.text c.put_object-end.result)
    (rw (sym c.index-objects-index.is) at row)
    (goes_on c.loop-index.invariant (goes_on lead c.put_object-end.ensures))
