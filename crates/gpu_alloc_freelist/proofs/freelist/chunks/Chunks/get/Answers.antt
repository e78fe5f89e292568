use Rattle.gpu_alloc_freelist.proofs.FiledRows.{held_listed, key_stands, says_under}
use Rattle.gpu_alloc_freelist.proofs.freelist.chunks.Chunks.get.Goals as goal

pub place_of-place-requires-clause-listed : goal.place_of-place-requires-clause-listed
place_of-place-requires-clause-listed g c =
    rw c.as_slice.ensures.value (held_listed g.M.MemoryObject.object c.self.inside.rows c.self.inside.numbers.items c.self.invariant c.args.number (rw (← c.self.view_is) at c.requires))

pub index-requires-2 : goal.index-requires-2
index-requires-2 g c =
    let within = rw c.as_slice.ensures.value at c.place_of-place.ensures.within in
    let named = rw c.as_slice.ensures.value at c.place_of-place.ensures.number in
    key_stands c.self.inside.rows c.self.inside.numbers.items c.self.invariant c.place_of-place.result c.index.result.now c.args.number within c.index.ensures named

pub returns : goal.returns
returns g c =
    let within = rw c.as_slice.ensures.value at c.place_of-place.ensures.within in
    let named = rw c.as_slice.ensures.value at c.place_of-place.ensures.number in
    rw (← c.self.view_is)
    (says_under c.self.inside.rows c.self.inside.numbers.items c.self.invariant c.place_of-place.result c.index.result.now c.args.number within c.index.ensures named g.M.MemoryObject.object c.index-2.result.now c.index-2.ensures)
