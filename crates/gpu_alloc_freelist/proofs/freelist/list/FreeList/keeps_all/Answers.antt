use Rattle.gpu_alloc_freelist.proofs.FreeListReturns.{region_held, none_to_go}
use Rattle.gpu_alloc_freelist.proofs.freelist.list.FreeList.keeps_all.Goals as goal

pub none_goes-requires-clause-held : goal.none_goes-requires-clause-held
none_goes-requires-clause-held g c = rw (c.as_slice.ensures) (region_held _ c.self.invariant.sound c.self.inside.runs.regions c.self.invariant.runs)

pub returns : goal.returns
returns g c none =
    let stay = rw (c.as_slice.ensures) at (c.none_goes.ensures none) in
    rw (← c.self.view_is) (none_to_go _ c.self.invariant.sound c.self.inside.runs.regions c.self.invariant.runs c.args.keep_last stay)
