use Rattle.std.proofs.Common.{◌≡◌, ◌<◌, true, sym, ◌∙◌, ap, subst}
use Rattle.gpu_alloc_types.specs.Device.{Range, Row}
use Rattle.gpu_alloc_types.specs.Device.Event.{Mapped}
use Rattle.gpu_alloc_block.specs.Agreement.{BlockAgrees}
use Rattle.gpu_alloc_block.proofs.Opened.{open_shared, open_answered, range_is}
use Rattle.gpu_alloc_block.specs.Ranges.{rounded_range}
use Rattle.gpu_alloc_block.specs.State.{is_shared}
use Rattle.gpu_alloc_block.proofs.block.MemoryBlock.open.Goals as goal

pub returns-then-is_shared-clause-ready : goal.returns-then-is_shared-clause-ready
unfolding BlockAgrees
returns-then-is_shared-clause-ready g c =
    let some : 0 < c.args.self.now.atom = rw (← c.self.view_is) c.self.invariant.some in
    let shared : is_shared c.args.self.now.kind ≡ true = ap (λ b. is_shared b.kind) (sym c.self.view_is) ∙ sym c.is_shared.ensures ∙ c.if-is_shared.true in
    open_shared (g.D.ObjectDevice.properties c.args.device.now) c.args.self.now c.args.offset c.args.len some c.requires.inside c.requires.nonempty (g.D.ObjectDevice.objects c.args.device.now) c.requires.able c.requires.agrees shared

pub returns-clause-ready : goal.returns-clause-ready
unfolding BlockAgrees
returns-clause-ready g c =
    let p = g.D.ObjectDevice.properties c.args.device.now in
    let b = c.args.self.now in
    let r : Range = rounded_range b c.args.offset c.args.len in
    let some : 0 < b.atom = rw (← c.self.view_is) c.self.invariant.some in
    let same = g.met.D.ObjectDevice.keeps_properties _ _ _ c.map_memory.ensures in
    let row = g.met.D.ObjectDevice.row _ _ _ c.map_memory.ensures in
    let range =
    range_is r (g.M.MemoryObject.object c.self.inside.memory) c.rounded-range.result.offset c.rounded-range.result.size (ap (λ x. x.object) c.self.view_is)
    (ap (λ x. x.offset) c.rounded-range.ensures) (ap (λ x. x.size) c.rounded-range.ensures) in
    open_answered p (g.D.ObjectDevice.properties c.map_memory.new.self) b c.args.offset c.args.len some c.requires.inside c.requires.nonempty (g.D.ObjectDevice.objects c.args.device.now) (g.D.ObjectDevice.objects c.map_memory.new.self) c.requires.able c.requires.agrees same c.map_memory.result
    (subst (λ x. Row p (g.D.ObjectDevice.objects c.args.device.now) (Mapped x c.map_memory.result) (g.D.ObjectDevice.objects c.map_memory.new.self)) range row)
