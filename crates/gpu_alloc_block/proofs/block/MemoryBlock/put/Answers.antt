use Rattle.std.proofs.Common.{◌+◌, subst}
use Rattle.gpu_alloc_types.specs.Device.{Row}
use Rattle.gpu_alloc_types.specs.Device.Event.{BytesPut}
use Rattle.gpu_alloc_block.proofs.Copies.{flush_ready, put_written, put_refused}
use Rattle.gpu_alloc_block.proofs.block.MemoryBlock.put.Goals as goal

pub flush-requires-clause-ready : goal.flush-requires-clause-ready
flush-requires-clause-ready g c =
    let row = subst (λ b. Row (g.D.MemoryDevice.properties c.args.device.now) (g.D.MemoryDevice.objects c.args.device.now) (BytesPut b.object (b.offset + c.args.offset) c.args.bytes.now) (g.D.MemoryDevice.objects c.put_bytes.new.self)) c.self.view_is (g.met.D.MemoryDevice.row _ _ _ c.put_bytes.ensures) in
    flush_ready (g.D.MemoryDevice.properties c.args.device.now) c.args.self.now c.args.offset c.args.bytes.now (rw (← c.self.view_is) c.self.invariant.some) c.requires.inside (g.D.MemoryDevice.objects c.args.device.now) c.requires.ready (g.D.MemoryDevice.objects c.put_bytes.new.self) row (g.D.MemoryDevice.properties c.put_bytes.new.self) (g.met.D.MemoryDevice.keeps_properties _ _ _ c.put_bytes.ensures)

pub returns-clause-written : goal.returns-clause-written
returns-clause-written g c =
    let row = subst (λ b. Row (g.D.MemoryDevice.properties c.args.device.now) (g.D.MemoryDevice.objects c.args.device.now) (BytesPut b.object (b.offset + c.args.offset) c.args.bytes.now) (g.D.MemoryDevice.objects c.put_bytes.new.self)) c.self.view_is (g.met.D.MemoryDevice.row _ _ _ c.put_bytes.ensures) in
    put_written (g.D.MemoryDevice.properties c.args.device.now) c.args.self.now c.args.offset c.args.bytes.now (rw (← c.self.view_is) c.self.invariant.some) c.requires.inside (g.D.MemoryDevice.objects c.args.device.now) c.requires.ready (g.D.MemoryDevice.objects c.put_bytes.new.self) row c.flush.result (g.D.MemoryDevice.objects c.flush.new.device) c.flush.ensures.objects

pub returns-clause-refused : goal.returns-clause-refused
returns-clause-refused g c =
    let row = subst (λ b. Row (g.D.MemoryDevice.properties c.args.device.now) (g.D.MemoryDevice.objects c.args.device.now) (BytesPut b.object (b.offset + c.args.offset) c.args.bytes.now) (g.D.MemoryDevice.objects c.put_bytes.new.self)) c.self.view_is (g.met.D.MemoryDevice.row _ _ _ c.put_bytes.ensures) in
    put_refused (g.D.MemoryDevice.properties c.args.device.now) c.args.self.now c.args.offset c.args.bytes.now (rw (← c.self.view_is) c.self.invariant.some) c.requires.inside (g.D.MemoryDevice.objects c.args.device.now) c.requires.ready (g.D.MemoryDevice.objects c.put_bytes.new.self) row c.flush.result (g.D.MemoryDevice.objects c.flush.new.device) c.flush.ensures.cause c.flush.ensures.objects
