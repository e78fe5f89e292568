use Rattle.std.proofs.Common.{◌+◌, arith}
use Rattle.gpu_alloc_freelist.proofs.FreeListGrants.{found_or_none}
use Rattle.gpu_alloc_freelist.proofs.freelist.list.FreeList.has_place.Goals as goal

pub returns : goal.returns
returns g c =
    rw (← c.self.view_is, c.is_some.ensures) (
    found_or_none _ c.self.inside.runs.regions c.self.invariant.runs c.args.size (c.args.align_mask + 1) (omega arith) c.last_with_room.result c.requires.nonempty
    c.last_with_room.ensures.some c.last_with_room.ensures.none
    )
