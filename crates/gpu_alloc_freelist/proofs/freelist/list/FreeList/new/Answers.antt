use Rattle.std.proofs.Common.{[], sym, ◌∙◌, ap, subst}
use Rattle.std.specs.FinMap as map
use Rattle.std.specs.FinSet as set
use Rattle.std.specs.Ordering.{nat_cmp}
use Rattle.gpu_alloc_base.specs.Accounts.{HeldChunks}
use Rattle.gpu_alloc_base.specs.Chunks.{Chunk}
use Rattle.gpu_alloc_base.specs.Slots.{slot_cmp}
use Rattle.gpu_alloc_freelist.specs.FreeListInside.{IsListed, list_space_in}
use Rattle.gpu_alloc_freelist.specs.FreeListSound.{IsSoundListSpace}
use Rattle.gpu_alloc_freelist.proofs.FreeListEmpty.{sound_space, listed_none}
use Rattle.gpu_alloc_freelist.proofs.freelist.list.FreeList.new.Goals as goal

pub invariant_of-result : goal.invariant_of-result
invariant_of-result g c =
    rw (c.new-2.ensures.regions, c.new-2.ensures.room, c.new-3.ensures.empty, c.new-3.ensures.count)
    (subst (λ (held : HeldChunks). IsListed (list_space_in held set.empty 0) [] 0 0 0) (sym c.new.ensures.empty) listed_none)

pub returns-clause-sound : goal.returns-clause-sound
returns-clause-sound g c = rw (c.new-3.ensures.empty) (subst (λ (held : HeldChunks). IsSoundListSpace (list_space_in held set.empty 0)) (sym c.new.ensures.empty) sound_space)

pub returns-clause-live : goal.returns-clause-live
returns-clause-live g c = ap (λ (l : set.FinSet slot_cmp). set.len l) c.new-3.ensures.empty ∙ set.len-empty slot_cmp

pub returns-clause-held : goal.returns-clause-held
returns-clause-held g c = ap (λ (held : HeldChunks). map.len held) c.new.ensures.empty ∙ map.len-empty nat_cmp Chunk
