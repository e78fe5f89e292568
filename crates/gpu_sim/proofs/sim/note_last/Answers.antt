use Rattle.std.proofs.Common.{ℕ, sym}
use Rattle.gpu_alloc_types.specs.Device.{range_of}
use Rattle.gpu_sim.proofs.Copies.{latest-map}
use Rattle.gpu_sim.proofs.sim.note_last.Goals as goal

pub returns-in-Some : goal.returns-in-Some
returns-in-Some g c =
    rw c.object.ensures (sym (latest-map (range_of {M = ℕ} (λ memory. memory)) _ c.args.ranges.now c.in-Some.range.now (rw c.in-Some.is at c.last.ensures.value)))
