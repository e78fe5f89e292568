use Rattle.gpu_alloc_types.specs.Flags.{property_bits}
use Rattle.gpu_alloc_buddy.specs.BuddyState.{Buddy, buddy_in}
use Rattle.gpu_alloc_buddy.proofs.BuddyChunks.{takes_so, tries_so}
use Rattle.gpu_alloc_buddy.proofs.chunks.BuddyChunksStore.take.Given.{Over}
use Rattle.gpu_alloc_buddy.proofs.chunks.BuddyChunksStore.take.Goals.{After-keeps_exact}
use Rattle.gpu_alloc_buddy.proofs.chunks.BuddyChunksStore.take.Goals as goal

abbrev old : (g : Over) → After-keeps_exact g → Buddy
old g c = buddy_in c.self.inside.pairs.space c.self.inside.next_order c.self.inside.minimal_size c.self.inside.memory_type (property_bits c.self.inside.props) c.self.inside.atom

pub returns-clause-takes : goal.returns-clause-takes
returns-clause-takes g c = rw (← c.self.view_is) (takes_so (old g c) c.take-taken.new.self.space c.args.order c.self.invariant.space c.take-taken.result c.take-taken.ensures.takes).0

pub returns-clause-added : goal.returns-clause-added
returns-clause-added g c = rw (← c.self.view_is) (takes_so (old g c) c.take-taken.new.self.space c.args.order c.self.invariant.space c.take-taken.result c.take-taken.ensures.takes).1.0

pub returns-clause-leaves : goal.returns-clause-leaves
returns-clause-leaves g c = rw (← c.self.view_is) (takes_so (old g c) c.take-taken.new.self.space c.args.order c.self.invariant.space c.take-taken.result c.take-taken.ensures.takes).1.1

pub returns-clause-counted : goal.returns-clause-counted
returns-clause-counted g c =
    rw (← c.self.view_is)
    (tries_so (old g c) c.take-taken.new.self.space c.args.order c.take-taken.result c.args.looks.now c.take-taken.new.looks c.args.splits.now c.take-taken.new.splits c.take-taken.ensures.takes c.take-taken.ensures.counted)
