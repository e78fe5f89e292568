use Rattle.std.proofs.Common.{refl}
use Rattle.gpu_alloc_base.specs.Accounts.{account}
use Rattle.gpu_alloc_buddy.proofs.BuddyAnswers.{frees_so}
use Rattle.gpu_alloc_buddy.proofs.BuddyChunks.{leaves_no_rest}
use Rattle.gpu_alloc_buddy.proofs.BuddySteps.{few_at_most}
use Rattle.gpu_alloc_buddy.proofs.buddy.BuddyAllocator.dealloc.Goals as goal

pub returns-clause-frees : goal.returns-clause-frees
returns-clause-frees g c =
    let live = rw (← c.self.view_is) at c.requires.live in
    let told = c.dealloc.ensures.frees c.args.block (live, refl) in
    rw (← c.self.view_is) (
      told.0,
      told.1,
      frees_so (account c.self.inside.store.state c.args.heap.now c.args.allocations_remains.now) (account c.dealloc.new.store.state c.dealloc.new.heap c.dealloc.new.allocations_remains) c.args.block told.0 c.keeps_sound.ensures live told.2,
    )

pub returns-clause-rest : goal.returns-clause-rest
returns-clause-rest g c = leaves_no_rest c.dealloc.new.store.state c.dealloc.ensures.sound

pub returns-clause-at_most : goal.returns-clause-at_most
returns-clause-at_most g c =
    let live = rw (← c.self.view_is) at c.requires.live in
    let joins = c.dealloc.ensures.steps c.args.block (live, refl) in
    few_at_most c.self.inside.store.state c.args.block c.args.releases.now c.dealloc.new.steps c.keeps_sound.ensures.space live joins.0 joins.1
