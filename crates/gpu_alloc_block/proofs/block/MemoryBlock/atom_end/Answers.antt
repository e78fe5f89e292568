use Rattle.std.proofs.Common.{ℕ, ◌+◌, ◌<◌, ◌≤◌, ◌^◌, ◌∙◌, arith}
use Rattle.std.specs.Int.{next_multiple_of}
use Rattle.gpu_alloc_block.proofs.Rounded.{up_is, up_past}
use Rattle.gpu_alloc_block.proofs.block.MemoryBlock.atom_end.Goals as goal

pub returns-in-Some : goal.returns-in-Some
returns-in-Some g c =
    rw (← c.self.view_is) (c.min.ensures ∙ up_is c.args.place c.self.inside.atom c.in-Some.next (c.self.inside.offset + c.self.inside.size) c.self.invariant.some c.in-Some.ensures.1)

not_below : (n bound : ℕ) → (n < bound → ⊥) → bound ≤ n
not_below n bound never = grind (arith)

pub returns-in-None : goal.returns-in-None
returns-in-None g c =
    let past : 2 ^ 64 ≤ next_multiple_of c.args.place c.self.inside.atom =
    not_below (next_multiple_of c.args.place c.self.inside.atom) (2 ^ 64) (λ fits. c.in-None.ensures (c.self.invariant.some, fits)) in
    rw (← c.self.view_is) (up_past c.args.place c.self.inside.atom (c.self.inside.offset + c.self.inside.size) c.self.invariant.some c.self.invariant.finish past)
