use Rattle.std.proofs.Common.{ℕ, sym, ◌∙◌}
use Rattle.std.proofs.lemmas.List.Elements.{All-push}
use Rattle.gpu_alloc.specs.declared.spans.HeldRow.{HeldRow}
use Rattle.gpu_alloc_block.specs.declared.block.Kind.TheVariants.{Dedicated}
use Rattle.gpu_report.specs.Report.{HasPlaces}
use Rattle.gpu_report.proofs.Told.{objects_more, objects_same}
use Rattle.gpu_report.proofs.kind.objects_of.Goals as goal
use Rattle.gpu_report.proofs.kind.objects_of.Goals.{then-has+in_ok-object_report+in_ok-push, else-has}

abbrev nothing : ℕ × HeldRow
nothing = (0, record { memory_type = 0; counted = 0; kind = Dedicated })

pub loop-row-preserved : goal.loop-row-preserved
loop-row-preserved c =
    let rows = c.args.held.now in
    let i = c.loop-row.row-index in
    let lt = c.loop-row-test.true in
    let so_far = c.loop-row.invariant.heads in
    elim c.if-has.branch [
      | then-has+in_ok-object_report+in_ok-push w ↦
          rw w.objects-is
          (rw w.in_ok-push.ensures.items
          (record {
            heads = objects_more c.args.part rows i nothing lt c.loop-row.objects.items so_far w.in_ok-object_report.field-0 (sym c.has.ensures ∙ w.if-has.true) w.in_ok-object_report.ensures.of;
            placed = All-push (HasPlaces c.args.live.now c.args.free.now) c.loop-row.objects.items w.in_ok-object_report.field-0 c.loop-row.invariant.placed w.in_ok-object_report.ensures.placed;
          }))
      | else-has w ↦
          rw w.objects-is
          (record {
            heads = objects_same c.args.part rows i nothing lt c.loop-row.objects.items so_far (sym c.has.ensures ∙ w.if-has.false);
            placed = c.loop-row.invariant.placed;
          })
    ]
