-- One more name is read.
use Rattle.std.proofs.Common.{◌<◌, length, arith}
use Rattle.gpu_answers.proofs.Naming.{names_kept_twice}
use Rattle.wallthyme.proofs.Reading.{reads_next}
use Rattle.wallthyme.proofs.Rest.{rest_stays}
use Rattle.wallthyme.proofs.objects.read_gone.Goals as goal

pub loop-count-preserved : goal.loop-count-preserved
loop-count-preserved c =
    let l = c.loop-count in
    let next = c.next_gone.ensures in
    let old = c.args.desk.now in
    let new = c.next_gone.new.self in
    let below : l.count < length l.names = omega (arith, c.loop-count-test.true, l.auto.names) in
    record {
      read = reads_next old l.names l.count c.in-Some.name l.desk new below l.invariant.read
          (rw c.in-Some.is at next.read) next.kept;
      names = names_kept_twice old.device.held l.desk.device.held new.device.held l.invariant.names next.names;
      rest = rest_stays l.names c.args.names.now l.count c.in-Some.name l.invariant.rest;
    }
