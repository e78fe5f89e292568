use Rattle.std.proofs.Common.{subst, List, ℕ}
use Rattle.gpu_report.proofs.GoingOn.{goes_on, row_more}
use Rattle.gpu_report.specs.Text.{kind_text}
use Rattle.gpu_report.specs.Writing.{GoesOn}
use Rattle.gpu_report.specs.declared.report.ObjectKind.TheVariants.{Dedicated}
use Rattle.gpu_report.proofs.text.put_kinds.Goals as goal

pub loop-index-preserved : goal.loop-index-preserved
loop-index-preserved c =
    let lead = rw c.lead.ensures at c.put_words-end.ensures in
    subst (λ (xs : List ℕ). GoesOn c.args.text.now c.args.at xs c.put_kind-end.new.text c.put_kind-end.result)
    (row_more kind_text c.args.kinds.now c.loop-index.index (record { memory_type = 0; kind = Dedicated; objects = 0; live_blocks = 0; live_bytes = 0; asked_bytes = 0; free_bytes = 0; largest_free = 0; scattered = 0 }) c.loop-index-test.true)
    (goes_on c.loop-index.invariant (goes_on lead c.put_kind-end.ensures))
