use Rattle.std.proofs.Common.{sym, ◌∙◌, ap}
use Rattle.gpu_alloc_types.specs.Properties.{are_non_coherent}
use Rattle.gpu_alloc_block.proofs.Copies.{invalidate_needless}
use Rattle.gpu_alloc_block.specs.Ranges.{rounded_range}
use Rattle.gpu_alloc_block.proofs.block.MemoryBlock.invalidate.Goals as goal

pub returns-then-not-is_non_coherent-clause-objects : goal.returns-then-not-is_non_coherent-clause-objects
returns-then-not-is_non_coherent-clause-objects g c =
    let b = c.args.self.now in
    invalidate_needless (g.D.ObjectDevice.properties c.args.device.now) b (rounded_range b c.args.offset c.args.len) (g.D.ObjectDevice.objects c.args.device.now) (g.met.D.ObjectDevice.well_formed c.args.device.now b.object) c.requires.ready
    (ap are_non_coherent (sym c.props.ensures) ∙ sym c.is_non_coherent.ensures ∙ c.if-not-is_non_coherent.true)
