use Rattle.std.proofs.Common.{subst}
use Rattle.std.specs.List.{All}
use Rattle.gpu_alloc.specs.Stores.{ChosenHasNoChunk, HaveNoChunk}
use Rattle.gpu_alloc.proofs.Closing.{all_before, all_last}
use Rattle.gpu_alloc.proofs.allocator.stores.close_stores.Goals as goal

pub loop-stores-preserved : goal.loop-stores-preserved
loop-stores-preserved g c = all_before HaveNoChunk _ _ (subst (All HaveNoChunk) c.in-Some.ensures.items c.loop-stores.invariant)

pub loop-stores-init : goal.loop-stores-init
loop-stores-init g c = c.requires

pub close-requires : goal.close-requires
close-requires g c = subst ChosenHasNoChunk c.in-Buddy.is (all_last HaveNoChunk _ _ (subst (All HaveNoChunk) c.in-Some.ensures.items c.loop-stores.invariant)).0

pub close-requires-in-Fit : goal.close-requires-in-Fit
close-requires-in-Fit g c = subst ChosenHasNoChunk c.in-Fit.is (all_last HaveNoChunk _ _ (subst (All HaveNoChunk) c.in-Some.ensures.items c.loop-stores.invariant)).0

pub close-requires-in-Some : goal.close-requires-in-Some
close-requires-in-Some g c = (all_last HaveNoChunk _ _ (subst (All HaveNoChunk) c.in-Some.ensures.items c.loop-stores.invariant)).1
