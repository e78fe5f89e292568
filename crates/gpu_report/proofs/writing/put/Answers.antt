use Rattle.std.proofs.Common.{◌-◌, ◌^◌, ◌≤◌, length, get_or, sym, arith}
use Rattle.std.proofs.lemmas.List.{take_more}
use Rattle.gpu_report.proofs.GoingOn.{goes_on, byte_fits, byte_passes}
use Rattle.gpu_report.proofs.writing.put.Goals as goal
use Rattle.gpu_report.proofs.writing.put.Goals.{then-end-text, else-end-text}

pub loop-byte-preserved : goal.loop-byte-preserved
loop-byte-preserved c =
    let bytes = c.args.bytes.now in
    let i = c.loop-byte.byte-index in
    let more = sym (take_more bytes i 0 c.loop-byte-test.true) in
    let few : length c.loop-byte.text ≤ 2 ^ 64 - 1 = omega arith in
    rw (c.saturating_add-end.ensures, ← more)
    (elim c.if-end-text.branch [
      | then-end-text w ↦ rw w.text-is (goes_on c.loop-byte.invariant (byte_fits c.loop-byte.text c.loop-byte.end (get_or bytes i 0) (omega (arith, w.if-end-text.true)) few))
      | else-end-text w ↦ rw w.text-is (goes_on c.loop-byte.invariant (byte_passes c.loop-byte.text c.loop-byte.end (get_or bytes i 0) (omega (arith, w.if-end-text.false))))
    ])
