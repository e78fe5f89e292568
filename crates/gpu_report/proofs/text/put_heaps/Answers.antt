use Rattle.std.proofs.Common.{subst, List, ℕ}
use Rattle.gpu_report.proofs.GoingOn.{goes_on, row_more}
use Rattle.gpu_report.specs.Text.{heap_text}
use Rattle.gpu_report.specs.Writing.{GoesOn}
use Rattle.gpu_report.proofs.text.put_heaps.Goals as goal

pub loop-index-preserved : goal.loop-index-preserved
loop-index-preserved c =
    let lead = rw c.lead.ensures at c.put_words-end.ensures in
    subst (λ (xs : List ℕ). GoesOn c.args.text.now c.args.at xs c.put_heap-end.new.text c.put_heap-end.result)
    (row_more heap_text c.args.heaps.now c.loop-index.index (record { size = 0; limit = 0; used = 0; budget = 0 }) c.loop-index-test.true)
    (goes_on c.loop-index.invariant (goes_on lead c.put_heap-end.ensures))
