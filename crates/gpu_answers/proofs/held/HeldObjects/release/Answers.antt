use Rattle.std.proofs.Common.{arith}
use Rattle.gpu_alloc_base.proofs.Names.{len_removed}
use Rattle.gpu_answers.proofs.Keeping.{held_in, kept-release}
use Rattle.gpu_answers.proofs.held.HeldObjects.release.Goals as goal

pub push_reserved-requires : goal.push_reserved-requires
push_reserved-requires c =
    let there = held_in _ _ c.args.memory.now c.self.view_is c.requires in
    let less = len_removed _ c.args.memory.now there.0 there.1 in
    let fits = c.self.invariant.names_fit in
    omega (arith, less, fits)

pub invariant_of-self : goal.invariant_of-self
invariant_of-self c =
    let there = held_in _ _ c.args.memory.now c.self.view_is c.requires in
    rw (c.push_reserved.ensures.items, c.push_reserved.ensures.len, c.push_reserved.ensures.capacity, c.remove.ensures.objects, c.object-name.ensures)
    (kept-release _ _ _ _ _ c.self.invariant c.args.memory.now there.0 there.1)
