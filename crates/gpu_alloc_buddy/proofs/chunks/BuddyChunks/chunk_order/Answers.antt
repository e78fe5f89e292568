use Rattle.std.proofs.Common.{◌^◌, refl, sym, ◌∙◌, ap, arith}
use Rattle.gpu_alloc_types.specs.Flags.{property_bits}
use Rattle.gpu_alloc_buddy.specs.BuddyState.{buddy_in}
use Rattle.gpu_alloc_buddy.proofs.BuddyAnswers.{chunk_size_is, same_order}
use Rattle.gpu_alloc_buddy.proofs.chunks.BuddyChunks.chunk_order.Goals as goal

pub returns-clause-is : goal.returns-clause-is
returns-clause-is g c =
    let b = buddy_in c.self.inside.pairs.space c.self.inside.next_order c.self.inside.minimal_size c.self.inside.memory_type (property_bits c.self.inside.props) c.self.inside.atom in
    rw (← c.self.view_is) (chunk_size_is b c.self.inside.next_order c.args.order refl ∙ ap (λ n. 2 ^ n) (sym c.max.ensures))

pub returns-clause-bound : goal.returns-clause-bound
returns-clause-bound g c = let power = c.self.invariant.next_chunk in omega (arith, c.max.ensures, same_order c.self.inside.next_order power.0 power.1.1, power.1.0, c.requires)
