use Rattle.std.proofs.Common.{length}
use Rattle.gpu_alloc_block.specs.Bytes.{ChangesBytes, IsWrittenThrough, WritesWithin}
use Rattle.gpu_alloc_block.specs.Contents.{Stores}
use Rattle.gpu_alloc_block.proofs.Between.{keeps_with_other_bytes}
use Rattle.gpu_alloc_block.proofs.Contents.{on_success, write_leaves, written_stored}
use Rattle.gpu_alloc_block.proofs.Kept.{agrees_moving, moving_in_hand}
use Rattle.gpu_alloc_block.proofs.Rounded.{lies_in_block}
use Rattle.gpu_alloc_block.proofs.block.MemoryBlock.write_bytes.Goals as goal

pub returns-clause-agrees : goal.returns-clause-agrees
returns-clause-agrees g c =
    agrees_moving c.args.self.now (g.D.MemoryDevice.properties c.args.device.now) (g.D.MemoryDevice.properties c.write.new.device) (g.D.MemoryDevice.objects c.args.device.now) (g.D.MemoryDevice.objects c.write.new.device) (WritesWithin c.args.self.now c.args.offset (length c.args.bytes.now)) (λ o new w. w.rest) c.write.ensures.properties c.write.ensures.within c.requires.agrees

pub returns-clause-keeps : goal.returns-clause-keeps
returns-clause-keeps g c =
    keeps_with_other_bytes c.args.self.now (g.D.MemoryDevice.properties c.args.device.now) (g.D.MemoryDevice.properties c.write.new.device) (g.D.MemoryDevice.objects c.args.device.now) (g.D.MemoryDevice.objects c.write.new.device) (WritesWithin c.args.self.now c.args.offset (length c.args.bytes.now)) (λ o new w. w.rest) c.write.ensures.properties c.write.ensures.within

pub returns-clause-in_hand : goal.returns-clause-in_hand
returns-clause-in_hand g c =
    let lies = lies_in_block c.args.self.now (g.D.MemoryDevice.properties c.args.device.now) (g.D.MemoryDevice.objects c.args.device.now) c.args.offset (length c.args.bytes.now) c.keeps_end.ensures.some c.requires.agrees c.requires.inside in
    moving_in_hand c.args.self.now (g.D.MemoryDevice.properties c.args.device.now) (g.D.MemoryDevice.properties c.write.new.device) (g.D.MemoryDevice.objects c.args.device.now) (g.D.MemoryDevice.objects c.write.new.device) (WritesWithin c.args.self.now c.args.offset (length c.args.bytes.now)) (λ o new w. w.rest) c.write.ensures.properties c.write.ensures.within c.requires.agrees
    (λ d two. write_leaves c.args.self.now d two c.args.offset (length c.args.bytes.now) (g.D.MemoryDevice.objects c.args.device.now) (g.D.MemoryDevice.objects c.write.new.device) c.requires.inside lies c.write.ensures.within)

pub returns-clause-stored : goal.returns-clause-stored
returns-clause-stored g c =
    let b = c.args.self.now in
    let bytes = c.args.bytes.now in
    let f = g.D.MemoryDevice.objects c.args.device.now in
    let moved = g.D.MemoryDevice.objects c.write.new.device in
    on_success c.write.result (ChangesBytes b (length bytes) (IsWrittenThrough b c.args.offset bytes) f moved) (Stores b c.args.offset bytes moved)
    (written_stored b c.args.offset bytes f moved c.keeps_end.ensures.some c.requires.inside) c.write.ensures.written
