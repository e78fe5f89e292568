use Rattle.std.proofs.Common.{◌≡◌, ◌+◌, ◌<◌, length, sym, subst}
use Rattle.gpu_alloc_types.specs.Device.{Row, HeldWith, IsInMapped, Changes, IsInvalidated}
use Rattle.gpu_alloc_types.specs.Device.Event.{BytesGot}
use Rattle.gpu_alloc_block.proofs.Copies.{get_ready, got_read}
use Rattle.gpu_alloc_block.specs.Ranges.{rounded_range}
use Rattle.gpu_alloc_block.proofs.block.MemoryBlock.get.Goals as goal

pub get_bytes-requires : goal.get_bytes-requires
get_bytes-requires g c =
    let p = g.D.MemoryDevice.properties c.args.device.now in
    let f = g.D.MemoryDevice.objects c.args.device.now in
    let fetched = g.D.MemoryDevice.objects c.invalidate.new.device in
    let some : 0 < c.args.self.now.atom = rw (← c.self.view_is) c.self.invariant.some in
    subst (λ b. HeldWith fetched b.object (IsInMapped (b.offset + c.args.offset) (length c.args.bytes.now))) (sym c.self.view_is)
    (get_ready p c.args.self.now c.args.offset c.args.bytes.now some c.requires.inside f c.requires.ready c.invalidate.result fetched c.requires.nonempty c.invalidate.ensures.objects)

pub returns-in-Ok-clause-read : goal.returns-in-Ok-clause-read
returns-in-Ok-clause-read g c =
    let p = g.D.MemoryDevice.properties c.args.device.now in
    let f = g.D.MemoryDevice.objects c.args.device.now in
    let fetched = g.D.MemoryDevice.objects c.invalidate.new.device in
    let got = g.D.MemoryDevice.objects c.get_bytes.new.self in
    let b = c.args.self.now in
    let bytes = c.get_bytes.new.bytes in
    let some : 0 < b.atom = rw (← c.self.view_is) c.self.invariant.some in
    let long : length bytes ≡ length c.args.bytes.now = c.get_bytes.auto.bytes in
    let row = g.met.D.MemoryDevice.row _ _ _ c.get_bytes.ensures in
    let done = subst (λ answer. Changes (IsInvalidated answer (rounded_range b c.args.offset (length c.args.bytes.now))) f b.object fetched) c.in-Ok.is c.invalidate.ensures.objects in
    got_read p b c.args.offset bytes some (rw long c.requires.inside) f fetched got (rw long done)
    (subst (λ x. Row (g.D.MemoryDevice.properties c.invalidate.new.device) fetched (BytesGot x.object (x.offset + c.args.offset) bytes) got) c.self.view_is row)
