use Rattle.std.proofs.Common.{length}
use Rattle.gpu_alloc_block.specs.Bytes.{ChangesBytes, IsReadThrough, ReadsWithin}
use Rattle.gpu_alloc_block.specs.Contents.{Stores}
use Rattle.gpu_alloc_block.proofs.Between.{keeps_with_other_bytes}
use Rattle.gpu_alloc_block.proofs.Contents.{on_success, read_leaves, read_told, read_unmoved}
use Rattle.gpu_alloc_block.proofs.Kept.{agrees_moving, moving_in_hand}
use Rattle.gpu_alloc_block.proofs.Rounded.{lies_in_block}
use Rattle.gpu_alloc_block.proofs.block.MemoryBlock.read_bytes.Goals as goal

pub returns-clause-agrees : goal.returns-clause-agrees
returns-clause-agrees g c =
    agrees_moving c.args.self.now (g.D.MemoryDevice.properties c.args.device.now) (g.D.MemoryDevice.properties c.read.new.device) (g.D.MemoryDevice.objects c.args.device.now) (g.D.MemoryDevice.objects c.read.new.device) (ReadsWithin c.args.self.now c.args.offset (length c.args.bytes.now)) (λ o new w. w.rest) c.read.ensures.properties c.read.ensures.within c.requires.agrees

pub returns-clause-told : goal.returns-clause-told
returns-clause-told g c =
    let b = c.args.self.now in
    let bytes = c.read.new.bytes in
    let len = length c.args.bytes.now in
    let f = g.D.MemoryDevice.objects c.args.device.now in
    let moved = g.D.MemoryDevice.objects c.read.new.device in
    on_success c.read.result (ChangesBytes b len (IsReadThrough b c.args.offset bytes) f moved) (Stores b c.args.offset bytes f)
    (read_told b c.args.offset bytes f moved len c.read.auto.bytes) c.read.ensures.read

pub returns-clause-keeps : goal.returns-clause-keeps
returns-clause-keeps g c =
    keeps_with_other_bytes c.args.self.now (g.D.MemoryDevice.properties c.args.device.now) (g.D.MemoryDevice.properties c.read.new.device) (g.D.MemoryDevice.objects c.args.device.now) (g.D.MemoryDevice.objects c.read.new.device) (ReadsWithin c.args.self.now c.args.offset (length c.args.bytes.now)) (λ o new w. w.rest) c.read.ensures.properties c.read.ensures.within

pub returns-clause-unmoved : goal.returns-clause-unmoved
returns-clause-unmoved g c =
    read_unmoved c.args.self.now c.args.offset (length c.args.bytes.now) (g.D.MemoryDevice.objects c.args.device.now) (g.D.MemoryDevice.objects c.read.new.device) c.read.ensures.within

pub returns-clause-in_hand : goal.returns-clause-in_hand
returns-clause-in_hand g c =
    let lies = lies_in_block c.args.self.now (g.D.MemoryDevice.properties c.args.device.now) (g.D.MemoryDevice.objects c.args.device.now) c.args.offset (length c.args.bytes.now) c.keeps_end.ensures.some c.requires.agrees c.requires.inside in
    moving_in_hand c.args.self.now (g.D.MemoryDevice.properties c.args.device.now) (g.D.MemoryDevice.properties c.read.new.device) (g.D.MemoryDevice.objects c.args.device.now) (g.D.MemoryDevice.objects c.read.new.device) (ReadsWithin c.args.self.now c.args.offset (length c.args.bytes.now)) (λ o new w. w.rest) c.read.ensures.properties c.read.ensures.within c.requires.agrees
    (λ d two. read_leaves c.args.self.now d two c.args.offset (length c.args.bytes.now) (g.D.MemoryDevice.objects c.args.device.now) (g.D.MemoryDevice.objects c.read.new.device) lies c.read.ensures.within)
