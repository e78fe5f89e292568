use Rattle.std.proofs.Common.{subst, List, ℕ}
use Rattle.gpu_report.proofs.GoingOn.{goes_on, row_more}
use Rattle.gpu_report.specs.Text.{type_text}
use Rattle.gpu_report.specs.Writing.{GoesOn}
use Rattle.gpu_report.proofs.text.put_types.Goals as goal

pub loop-index-preserved : goal.loop-index-preserved
loop-index-preserved c =
    let lead = rw c.lead.ensures at c.put_words-end.ensures in
    subst (λ (xs : List ℕ). GoesOn c.args.text.now c.args.at xs c.put_type-end.new.text c.put_type-end.result)
    (row_more type_text c.args.types.now c.loop-index.index (record { heap = 0; props = record { bits = 0 } }) c.loop-index-test.true)
    (goes_on c.loop-index.invariant (goes_on lead c.put_type-end.ensures))
