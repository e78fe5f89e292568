use Rattle.std.proofs.Common.{◌≡◌, inl, inr, refl, subst}
use Rattle.gpu_alloc_types.specs.Device.{Asked, Chain, Event}
use Rattle.gpu_alloc_base.specs.Accounts.{Account, account}
use Rattle.gpu_alloc_base.specs.declared.free_list_block.Slot.{Slot}
use Rattle.gpu_alloc_freelist.specs.FreeListAllocator.{account_without}
use Rattle.gpu_alloc_freelist.specs.FreeListRule.{list_rule}
use Rattle.gpu_alloc_freelist.specs.FreeListState.{FreeListState}
use Rattle.gpu_alloc_shared.specs.Shared.{Frees}
use Rattle.gpu_alloc_freelist.proofs.freelist.store.FreeListChunks.dealloc.Goals as goal

-- no chunk is released with a block
stays : {D : Type 0} (step : D → Event → D → Type 0) (old new : D) (a b : Account FreeListState) (slot : Slot) → Asked step old new (λ es. Frees list_rule a slot es b) → (new ≡ old) × (b ≡ account_without a slot)
stays step old new a b slot (es, chain, inl kept) = (subst (λ xs. Chain step old xs new) kept.1.0 chain, kept.1.1)
stays step old new a b slot (es, chain, inr gone) = absurd (gone.0)

pub returns-clause-device : goal.returns-clause-device
returns-clause-device g c = (stays g.D.ObjectDevice.step _ _ (account c.args.self.now.state c.args.heap.now c.args.allocations_remains.now) _ c.args.block (c.dealloc.ensures.frees c.args.block (refl, c.requires.live))).0

pub returns-clause-back : goal.returns-clause-back
returns-clause-back g c = (stays g.D.ObjectDevice.step _ _ (account c.args.self.now.state c.args.heap.now c.args.allocations_remains.now) _ c.args.block (c.dealloc.ensures.frees c.args.block (refl, c.requires.live))).1

pub returns-clause-removed : goal.returns-clause-removed
returns-clause-removed g c = c.dealloc.ensures.removed c.args.block (refl, c.requires.live)
