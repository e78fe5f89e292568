use Rattle.std.proofs.Common.{◌≡◌, ap, ◌∙◌}
use Rattle.std.specs.FinMap as map
use Rattle.gpu_alloc_base.proofs.SlabViews.{IsRemoved}
use Rattle.gpu_alloc_freelist.specs.Chunks.{held_in}
use Rattle.gpu_alloc_freelist.proofs.FiledChanges.{filed_removed, held_removed}
use Rattle.gpu_alloc_freelist.proofs.FiledRows.{held_listed, key_stands, number_under, says_under}
use Rattle.gpu_alloc_freelist.proofs.freelist.chunks.Chunks.remove.Given.{Over}
use Rattle.gpu_alloc_freelist.proofs.freelist.chunks.Chunks.remove.Goals as goal

pub place_of-place-requires-clause-listed : goal.place_of-place-requires-clause-listed
place_of-place-requires-clause-listed g c =
    rw c.as_slice.ensures.value (held_listed g.M.MemoryObject.object c.self.inside.rows c.self.inside.numbers.items c.self.invariant c.args.number (rw (← c.self.view_is) at c.requires))

pub remove-requires : goal.remove-requires
remove-requires g c =
    let within = rw c.as_slice.ensures.value at c.place_of-place.ensures.within in
    let named = rw c.as_slice.ensures.value at c.place_of-place.ensures.number in
    key_stands c.self.inside.rows c.self.inside.numbers.items c.self.invariant c.place_of-place.result c.remove-key.result c.args.number within c.remove-key.ensures.value named

removed : (g : Over) (c : goal.After-remove g) → IsRemoved c.self.inside.rows c.remove.new.self c.remove-key.result.key c.remove.result
removed g c = record { was = c.remove.ensures.value; updates = c.remove.ensures.updates }

number_is : (g : Over) (c : goal.After-remove g) → c.remove.result.number ≡ c.args.number
number_is g c =
    let within = rw c.as_slice.ensures.value at c.place_of-place.ensures.within in
    let named = rw c.as_slice.ensures.value at c.place_of-place.ensures.number in
    number_under c.self.inside.rows c.self.inside.numbers.items c.self.invariant c.place_of-place.result c.remove-key.result c.args.number within c.remove-key.ensures.value named c.remove.result c.remove.ensures.value

pub invariant_of-self : goal.invariant_of-self
invariant_of-self g c =
    let within = rw c.as_slice.ensures.value at c.place_of-place.ensures.within in
    rw c.remove-key.ensures.items
    (filed_removed c.self.inside.rows c.remove.new.self c.self.inside.numbers.items c.place_of-place.result c.remove-key.result c.remove.result c.self.invariant within c.remove-key.ensures.value (removed g c))

pub returns-clause-number : goal.returns-clause-number
returns-clause-number g c = number_is g c

pub returns-clause-chunk : goal.returns-clause-chunk
returns-clause-chunk g c =
    let within = rw c.as_slice.ensures.value at c.place_of-place.ensures.within in
    let named = rw c.as_slice.ensures.value at c.place_of-place.ensures.number in
    rw (← c.self.view_is)
    (says_under c.self.inside.rows c.self.inside.numbers.items c.self.invariant c.place_of-place.result c.remove-key.result c.args.number within c.remove-key.ensures.value named g.M.MemoryObject.object c.remove.result c.remove.ensures.value)

pub returns-clause-held : goal.returns-clause-held
returns-clause-held g c =
    let within = rw c.as_slice.ensures.value at c.place_of-place.ensures.within in
    rw (← c.self.view_is)
    (held_removed c.self.inside.rows c.remove.new.self c.self.inside.numbers.items c.place_of-place.result c.remove-key.result c.remove.result c.self.invariant within c.remove-key.ensures.value (removed g c) g.M.MemoryObject.object
    ∙ ap (map.remove (held_in g.M.MemoryObject.object c.self.inside.rows)) (number_is g c))
