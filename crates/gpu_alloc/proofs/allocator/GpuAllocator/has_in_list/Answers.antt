use Rattle.std.proofs.Common.{refl}
use Rattle.gpu_alloc_block.specs.State.{span_of}
use Rattle.gpu_alloc.proofs.FreeLists.Named.{list_is_named, list_named, slot_of_block}
use Rattle.gpu_alloc.proofs.Links.{slot_at}
use Rattle.gpu_alloc.proofs.Shared.Owned.{block_of, has_found, never_owned, owned_of}
use Rattle.gpu_alloc.proofs.WholeOwned.{unknown_unowned}
use Rattle.gpu_alloc.proofs.allocator.GpuAllocator.has_in_list.Goals as goal

pub returns-in-Some : goal.returns-in-Some
returns-in-Some g c =
    let at = rw (c.deref.ensures.value, c.memory_type.ensures) at c.in-Some.ensures.lookup in
    let tells = rw (c.object.ensures, c.memory.ensures, c.offset.ensures, c.size.ensures) at c.is_live.ensures in
    let has = has_found list_named c.self.inside.limits c.self.invariant at.3.0 at.1 refl in
    let slot = slot_at (span_of c.args.block.now) c.args.number in
    rw (← c.self.view_is) (
      λ yes. owned_of list_is_named has refl slot (record { live = tells.0 yes; span = refl; kind = c.requires }),
      λ owned. tells.1 (slot_of_block {slot = slot} (block_of list_is_named has refl owned c.args.number c.requires) c.requires refl).live,
    )

pub returns-in-None : goal.returns-in-None
returns-in-None g c =
    let found = rw (c.deref.ensures.value, c.memory_type.ensures) at c.in-None.ensures.lookup in
    rw (← c.self.view_is) (never_owned (unknown_unowned c.self.inside.limits _ _ _ _ c.self.invariant c.args.block.now _ c.self.invariant.shared.count found.3))
