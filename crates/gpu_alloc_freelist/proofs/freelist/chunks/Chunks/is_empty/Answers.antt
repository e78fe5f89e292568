use Rattle.std.proofs.Common.{vec_len, arith}
use Rattle.std.proofs.lemmas.Bool.Decides.{Decides-eqb}
use Rattle.gpu_alloc_freelist.proofs.FiledRows.{none_held, none_listed}
use Rattle.gpu_alloc_freelist.proofs.freelist.chunks.Chunks.is_empty.Goals as goal

pub returns : goal.returns
returns g c =
    let test = Decides-eqb (vec_len c.self.inside.numbers) 0 in
    let numbers = c.self.inside.numbers.items in
    rw (← c.self.view_is, c.is_empty.ensures) (
      λ none. none_listed g.M.MemoryObject.object c.self.inside.rows numbers c.self.invariant (omega (arith, test.0 none)),
      λ none. test.1 (omega (arith, none_held g.M.MemoryObject.object c.self.inside.rows numbers c.self.invariant none)),
    )
