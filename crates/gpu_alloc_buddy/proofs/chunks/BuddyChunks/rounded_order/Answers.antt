use Rattle.std.proofs.Common.{◌≡◌, ◌+◌, sym, ◌∙◌, ap, arith}
use Rattle.std.specs.Prelude.{max}
use Rattle.gpu_alloc_types.specs.Flags.{property_bits}
use Rattle.gpu_alloc_base.specs.Sizes.{next_power_of_two}
use Rattle.gpu_alloc_base.specs.Wanted.{Wanted, wanted}
use Rattle.gpu_alloc_buddy.specs.BuddyRule.{order_for}
use Rattle.gpu_alloc_buddy.specs.BuddyState.{Buddy, buddy_in}
use Rattle.gpu_alloc_buddy.proofs.BuddyAnswers.{order_is, same_order}
use Rattle.gpu_alloc_buddy.proofs.chunks.BuddyChunks.rounded_order.Goals as goal

pub returns : goal.returns
returns g c =
    let b : Buddy = buddy_in c.self.inside.pairs.space c.self.inside.next_order c.self.inside.minimal_size c.self.inside.memory_type (property_bits c.self.inside.props) c.self.inside.atom in
    let w : Wanted = wanted c.args.size c.args.align_mask 0 in
    let greatest : c.max.result ≡ max (max w.size (w.align_mask + 1)) (max b.atom b.minimal) = omega (arith, c.max.ensures, c.max-aligned.ensures, c.max-least.ensures) in
    rw (← c.self.view_is)
    (same_order c.next_order.result (order_for b w.size w.align_mask) (sym c.next_order.ensures.least ∙ ap next_power_of_two greatest ∙ order_is b w c.self.invariant (omega (arith, c.ranges.size.fits)) c.requires))
