use Rattle.std.proofs.Common.{None, refl, sym, subst}
use Rattle.gpu_alloc_block.proofs.Contents.{closed_leaves, same_objects}
use Rattle.gpu_alloc_block.proofs.Keeping.{same_block}
use Rattle.gpu_alloc_block.proofs.Kept.{nothing_in_hand, unmapped_agrees, unmapped_in_hand, unmapped_keeps}
use Rattle.gpu_alloc_block.specs.Agreement.{BlockAgrees}
use Rattle.gpu_alloc_block.specs.InHand.{IsSameBlock}
use Rattle.gpu_alloc_block.specs.Kept.{KeepsInHand}
use Rattle.gpu_alloc_block.specs.State.{is_shared}
use Rattle.gpu_alloc_block.proofs.block.MemoryBlock.unmap.Goals as goal

pub returns-clause-agrees : goal.returns-clause-agrees
returns-clause-agrees g c =
    let q = g.D.ObjectDevice.properties c.close.new.device in
    let closed = g.D.ObjectDevice.objects c.close.new.device in
    rw (c.none-self-inside.ensures) (subst (λ x. BlockAgrees (record x { mapping = None }) q closed) (sym c.self.view_is)
    (unmapped_agrees c.args.self.now (g.D.ObjectDevice.properties c.args.device.now) q (g.D.ObjectDevice.objects c.args.device.now) closed c.close.ensures.properties c.requires c.close.ensures.objects))

pub returns-clause-keeps : goal.returns-clause-keeps
returns-clause-keeps g c =
    unmapped_keeps c.args.self.now (g.D.ObjectDevice.properties c.args.device.now) (g.D.ObjectDevice.properties c.close.new.device) (g.D.ObjectDevice.objects c.args.device.now) (g.D.ObjectDevice.objects c.close.new.device) c.close.ensures.properties c.requires c.close.ensures.objects

pub returns-clause-same : goal.returns-clause-same
unfolding BlockAgrees
returns-clause-same g c =
    rw (c.none-self-inside.ensures) (subst (λ x. IsSameBlock c.args.self.now (record x { mapping = None })) (sym c.self.view_is) (same_block c.args.self.now None))

pub returns-then-not-is_some-clause-bytes : goal.returns-then-not-is_some-clause-bytes
returns-then-not-is_some-clause-bytes g c = λ d. same_objects d (g.D.ObjectDevice.objects c.args.device.now) (g.D.ObjectDevice.objects c.args.device.now) refl

pub returns-then-not-is_some-clause-in_hand : goal.returns-then-not-is_some-clause-in_hand
returns-then-not-is_some-clause-in_hand g c =
    nothing_in_hand c.args.self.now (g.D.ObjectDevice.properties c.args.device.now) (g.D.ObjectDevice.properties c.args.device.now) (g.D.ObjectDevice.objects c.args.device.now) (g.D.ObjectDevice.objects c.args.device.now) refl refl c.requires

pub returns-clause-bytes : goal.returns-clause-bytes
returns-clause-bytes g c = λ d.
    let b = c.args.self.now in
    closed_leaves (is_shared b.kind) (g.D.ObjectDevice.objects c.args.device.now) (g.D.ObjectDevice.objects c.close.new.device) b d c.close.ensures.objects

pub returns-clause-in_hand : goal.returns-clause-in_hand
returns-clause-in_hand g c =
    let p = g.D.ObjectDevice.properties c.args.device.now in
    let q = g.D.ObjectDevice.properties c.close.new.device in
    let f = g.D.ObjectDevice.objects c.args.device.now in
    let closed = g.D.ObjectDevice.objects c.close.new.device in
    rw (c.none-self-inside.ensures) (subst (λ x. KeepsInHand c.args.self.now p f (record x { mapping = None }) q closed) (sym c.self.view_is)
    (unmapped_in_hand c.args.self.now p q f closed c.close.ensures.properties c.requires c.close.ensures.objects))
