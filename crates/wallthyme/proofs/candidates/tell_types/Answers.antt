-- Where the room is full, all of it is written.
use Rattle.std.proofs.Common.{◌≡◌, ◌≤◌, ℕ, List, length, take, arith, sym, ◌∙◌, subst}
use Rattle.std.proofs.lemmas.List.{take_all}
use Rattle.wallthyme.specs.Candidates.{AreListed}
use Rattle.wallthyme.proofs.Rest.{nothing_behind}
use Rattle.wallthyme.proofs.candidates.tell_types.Goals as goal

-- what is written of as many as there is room for
told_in_full : (found told : List ℕ) → length told ≤ length found
    → take (length told) told ≡ take (length told) found → AreListed found told
told_in_full found told fits each =
    take_all (length found) told fits ∙ sym (take_all (length told) told (omega arith)) ∙ each

pub returns : goal.returns
returns c =
    let l = c.loop-index in
    let full : l.index ≡ length l.types = omega arith in
    let P : ℕ → Type 0 = λ n. take n l.types ≡ take n c.args.found.now in
    record {
      told = told_in_full c.args.found.now l.types (omega arith) (subst P full l.invariant.told);
      rest = nothing_behind l.types c.args.types.now (length c.args.found.now) (omega arith) (omega arith);
    }
