use Rattle.std.proofs.Common.{Some, refl, sym, ◌∙◌, subst}
use Rattle.gpu_alloc_block.proofs.Contents.{opened_leaves, same_objects}
use Rattle.gpu_alloc_block.proofs.Keeping.{same_block}
use Rattle.gpu_alloc_block.proofs.Kept.{mapped_agrees, mapped_in_hand, mapped_keeps, nothing_in_hand}
use Rattle.gpu_alloc_block.specs.Agreement.{BlockAgrees}
use Rattle.gpu_alloc_block.specs.InHand.{IsSameBlock}
use Rattle.gpu_alloc_block.specs.Kept.{KeepsInHand}
use Rattle.gpu_alloc_block.specs.Mapped.{mapping_of}
use Rattle.gpu_alloc_block.specs.Ranges.{rounded_range}
use Rattle.gpu_alloc_block.specs.State.{is_shared}
use Rattle.gpu_alloc_block.proofs.block.MemoryBlock.map.Goals as goal

pub returns-in-Ok-clause-agrees : goal.returns-in-Ok-clause-agrees
returns-in-Ok-clause-agrees g c =
    let q = g.D.ObjectDevice.properties c.open.new.device in
    let opened = g.D.ObjectDevice.objects c.open.new.device in
    rw (c.of-self-inside.ensures) (subst (λ x. BlockAgrees (record x { mapping = Some (mapping_of x c.args.offset c.args.size) }) q opened) (sym c.self.view_is)
    (mapped_agrees c.args.self.now (g.D.ObjectDevice.properties c.args.device.now) q (g.D.ObjectDevice.objects c.args.device.now) opened c.open.ensures.properties c.requires.agrees c.args.offset c.args.size (rw (c.in-Ok.is) at c.open.ensures.objects) (sym c.refusal.ensures ∙ c.in_default.is) c.requires.nonempty c.requires.inside))

pub returns-in-Ok-clause-keeps : goal.returns-in-Ok-clause-keeps
returns-in-Ok-clause-keeps g c =
    mapped_keeps c.args.self.now (g.D.ObjectDevice.properties c.args.device.now) (g.D.ObjectDevice.properties c.open.new.device) (g.D.ObjectDevice.objects c.args.device.now) (g.D.ObjectDevice.objects c.open.new.device)
    c.open.ensures.properties c.requires.agrees c.args.offset c.args.size (rw (c.in-Ok.is) at c.open.ensures.objects)

pub returns-in-Ok-clause-same : goal.returns-in-Ok-clause-same
unfolding BlockAgrees
returns-in-Ok-clause-same g c =
    rw (c.of-self-inside.ensures) (subst (λ x. IsSameBlock c.args.self.now (record x { mapping = Some (mapping_of x c.args.offset c.args.size) })) (sym c.self.view_is)
    (same_block c.args.self.now (Some (mapping_of c.args.self.now c.args.offset c.args.size))))

pub returns-in-Some-clause-bytes : goal.returns-in-Some-clause-bytes
returns-in-Some-clause-bytes g c = λ d. same_objects d (g.D.ObjectDevice.objects c.args.device.now) (g.D.ObjectDevice.objects c.args.device.now) refl

pub returns-in-Some-clause-in_hand : goal.returns-in-Some-clause-in_hand
returns-in-Some-clause-in_hand g c =
    nothing_in_hand c.args.self.now (g.D.ObjectDevice.properties c.args.device.now) (g.D.ObjectDevice.properties c.args.device.now) (g.D.ObjectDevice.objects c.args.device.now) (g.D.ObjectDevice.objects c.args.device.now) refl refl c.requires.agrees

pub returns-in-Ok-clause-bytes : goal.returns-in-Ok-clause-bytes
returns-in-Ok-clause-bytes g c = λ d.
    let b = c.args.self.now in
    opened_leaves (is_shared b.kind) (rounded_range b c.args.offset c.args.size) (g.D.ObjectDevice.objects c.args.device.now) (g.D.ObjectDevice.objects c.open.new.device) b d refl (rw (c.in-Ok.is) at c.open.ensures.objects)

pub returns-in-Ok-clause-in_hand : goal.returns-in-Ok-clause-in_hand
returns-in-Ok-clause-in_hand g c =
    let b = c.args.self.now in
    let p = g.D.ObjectDevice.properties c.args.device.now in
    let q = g.D.ObjectDevice.properties c.open.new.device in
    let f = g.D.ObjectDevice.objects c.args.device.now in
    let opened = g.D.ObjectDevice.objects c.open.new.device in
    rw (c.of-self-inside.ensures) (subst (λ x. KeepsInHand b p f (record x { mapping = Some (mapping_of x c.args.offset c.args.size) }) q opened) (sym c.self.view_is)
    (mapped_in_hand b p q f opened c.open.ensures.properties c.requires.agrees c.args.offset c.args.size (rw (c.in-Ok.is) at c.open.ensures.objects) (sym c.refusal.ensures ∙ c.in_default.is) c.requires.nonempty c.requires.inside))

pub returns-in-Err-clause-bytes : goal.returns-in-Err-clause-bytes
returns-in-Err-clause-bytes g c = λ d. same_objects d (g.D.ObjectDevice.objects c.args.device.now) (g.D.ObjectDevice.objects c.open.new.device) (rw (c.in-Err.is) at c.open.ensures.objects)

pub returns-in-Err-clause-in_hand : goal.returns-in-Err-clause-in_hand
returns-in-Err-clause-in_hand g c =
    nothing_in_hand c.args.self.now (g.D.ObjectDevice.properties c.args.device.now) (g.D.ObjectDevice.properties c.open.new.device) (g.D.ObjectDevice.objects c.args.device.now) (g.D.ObjectDevice.objects c.open.new.device) c.open.ensures.properties (rw (c.in-Err.is) at c.open.ensures.objects) c.requires.agrees
