use Rattle.std.proofs.Common.{◌<◌, ◌≤◌, length, map, arith}
use Rattle.gpu_alloc.specs.Spans.{held_entry_of}
use Rattle.gpu_report.specs.Held.{held_as}
use Rattle.gpu_report.proofs.Told.{objects_told, told_used, told_unused}
use Rattle.gpu_report.proofs.kind.add_kind.Goals as goal
use Rattle.gpu_report.proofs.kind.add_kind.Goals.{then-count-gt0+in_ok-kind_report+in_ok-push, else-count-gt0}

pub returns : goal.returns
returns g c ps told =
    let s = c.args.allocator.now in
    let p = c.args.part in
    let held = map held_entry_of c.args.held.now in
    let law = c.free_ranges_are_the_free_bytes.ensures in
    let more = c.in_ok-objects_of.field-0.items in
    let each = objects_told s held c.args.live.now c.args.free.now p c.requires.sound c.requires.are_held c.requires.are_live c.requires.are_free
    (record { covers = law.covers s p.memory_type; free = law.free s p.memory_type; apart = law.apart s p.memory_type; nonempty = law.nonempty s p.memory_type })
    more c.in_ok-objects_of.ensures.heads c.in_ok-objects_of.ensures.placed in
    let heads = c.in_ok-objects_of.ensures.heads in
    rw c.in_ok-append.ensures.items
    (elim c.if-count-gt0.branch [
      | then-count-gt0+in_ok-kind_report+in_ok-push w ↦
          let some : 0 < length (held_as held p) = omega (arith, c.count.ensures, w.if-count-gt0.true) in
          rw w.kinds-is
          (rw w.in_ok-push.ensures.items
          (told_used s held c.args.live.now p ps c.args.kinds.now.items c.args.objects.now.items told w.in_ok-kind_report.field-0 some
          w.in_ok-kind_report.ensures.of w.in_ok-kind_report.ensures.sums more heads each))
      | else-count-gt0 w ↦
          let none : length (held_as held p) ≤ 0 = omega (arith, c.count.ensures, w.if-count-gt0.false) in
          rw w.kinds-is (told_unused s held c.args.live.now p ps c.args.kinds.now.items c.args.objects.now.items told none more heads each)
    ])
