use Rattle.std.proofs.Common.{ap}
use Rattle.gpu_alloc_base.proofs.InHand.{grant_leaves}
use Rattle.gpu_alloc_base.proofs.Slots.{slot_exact, slot_total}
use Rattle.gpu_alloc_freelist.specs.FreeListState.{FreeListState, ListSpace, bytes_of}
use Rattle.gpu_alloc_shared.specs.Sized.{sized}
use Rattle.gpu_alloc_shared.proofs.Sized.{whole_holds}
use Rattle.gpu_alloc_freelist.proofs.FreeListAnswers.{adds_begun, sound_begun}
use Rattle.gpu_alloc_freelist.proofs.freelist.store.FreeListChunksStore.begin.Goals as goal

pub begin-block-requires-clause-inside : goal.begin-block-requires-clause-inside
begin-block-requires-clause-inside g c = (whole_holds (sized c.self.inside.freelist.space c.self.inside.sizes) c.args.ask.size c.args.whole c.self.invariant c.requires.asked.nonempty (rw (← c.self.view_is) at c.requires.size.1.0) (rw (← c.self.view_is) at c.requires.size.1.1)).0

pub grow-requires-clause-bound : goal.grow-requires-clause-bound
grow-requires-clause-bound g c = (whole_holds (sized c.self.inside.freelist.space c.self.inside.sizes) c.args.ask.size c.args.whole c.self.invariant c.requires.asked.nonempty (rw (← c.self.view_is) at c.requires.size.1.0) (rw (← c.self.view_is) at c.requires.size.1.1)).1.0

pub invariant_of-self : goal.invariant_of-self
invariant_of-self g c =
    let l : FreeListState = sized c.self.inside.freelist.space c.self.inside.sizes in
    rw (c.grow.ensures) (sound_begun l c.args.ask (g.M.MemoryObject.object c.args.memory) c.args.whole c.begin-block.result c.begin-block.new.self.space c.begin-block.ensures.block c.begin-block.ensures.chunk
    c.self.invariant (rw (← c.self.view_is) at c.requires.new_object) (rw (← c.self.view_is) at c.requires.asked) (rw (← c.self.view_is) at c.requires.size.1.0) (rw (← c.self.view_is) at c.requires.size.1.1))

pub returns-clause-added : goal.returns-clause-added
returns-clause-added g c =
    let l : FreeListState = sized c.self.inside.freelist.space c.self.inside.sizes in
    rw (← c.self.view_is)
    (adds_begun l c.args.ask (g.M.MemoryObject.object c.args.memory) c.args.whole c.begin-block.result c.begin-block.new.self.space c.begin-block.ensures.block c.begin-block.ensures.chunk
    c.self.invariant (rw (← c.self.view_is) at c.requires.new_object) (rw (← c.self.view_is) at c.requires.asked) (rw (← c.self.view_is) at c.requires.size.1.0) (rw (← c.self.view_is) at c.requires.size.1.1))

pub returns-clause-leaves : goal.returns-clause-leaves
returns-clause-leaves g c = rw (← c.self.view_is) (grant_leaves slot_total slot_exact bytes_of _ c.begin-block.result _ (ap (λ (s : ListSpace). s.live) c.begin-block.ensures.chunk))
