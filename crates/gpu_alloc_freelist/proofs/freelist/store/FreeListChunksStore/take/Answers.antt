use Rattle.gpu_alloc_shared.specs.Sized.{sized}
use Rattle.gpu_alloc_freelist.specs.FreeListState.{FreeListState}
use Rattle.gpu_alloc_freelist.proofs.FreeListAnswers.{adds_taken, leaves_taken, sound_taken, takes_so}
use Rattle.gpu_alloc_freelist.proofs.freelist.store.FreeListChunksStore.take.Given.{Over}
use Rattle.gpu_alloc_freelist.proofs.freelist.store.FreeListChunksStore.take.Goals.{After-get_block}
use Rattle.gpu_alloc_freelist.proofs.freelist.store.FreeListChunksStore.take.Goals as goal

abbrev old : (g : Over) → After-get_block g → FreeListState
old g c = sized c.self.inside.freelist.space c.self.inside.sizes

pub invariant_of-self : goal.invariant_of-self
invariant_of-self g c = sound_taken (old g c) c.args.ask c.get_block.new.self.space c.get_block.result c.self.invariant (rw (← c.self.view_is) at c.requires.asked) c.get_block.ensures.takes

pub returns-clause-takes : goal.returns-clause-takes
returns-clause-takes g c = rw (← c.self.view_is) (takes_so (old g c) c.args.ask c.get_block.new.self.space c.get_block.result c.get_block.ensures.takes)

pub returns-clause-added : goal.returns-clause-added
returns-clause-added g c = rw (← c.self.view_is) (adds_taken (old g c) c.args.ask c.get_block.new.self.space c.get_block.result c.self.invariant (rw (← c.self.view_is) at c.requires.asked) c.get_block.ensures.takes)

pub returns-clause-leaves : goal.returns-clause-leaves
returns-clause-leaves g c = rw (← c.self.view_is) (leaves_taken (old g c) c.args.ask c.get_block.new.self.space c.get_block.result c.get_block.ensures.takes)
