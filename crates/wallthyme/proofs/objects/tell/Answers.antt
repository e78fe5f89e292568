-- Where the room is full, all of it is written.
use Rattle.std.proofs.Common.{◌≡◌, ◌≤◌, ℕ, List, length, take, arith, sym, ◌∙◌, subst}
use Rattle.std.proofs.lemmas.List.{take-map, take_all}
use Rattle.std.specs.Prelude.{map}
use Rattle.gpu_alloc_types.specs.declared.types.FreeRange.{FreeRange}
use Rattle.wallthyme.specs.Layout.{free_range_of}
use Rattle.wallthyme.specs.Objects.{AreRangesTold}
use Rattle.wallthyme.specs.declared.layout.Range.{Range}
use Rattle.wallthyme.proofs.Rest.{nothing_behind}
use Rattle.wallthyme.proofs.objects.tell.Goals as goal

-- what is written of as many as there is room for
told_in_full : (found : List FreeRange) (told : List Range) → length told ≤ length found
    → take (length told) told ≡ map free_range_of (take (length told) found) → AreRangesTold found told
told_in_full found told fits each =
    take_all (length found) told fits ∙ sym (take_all (length told) told (omega arith)) ∙ each
    ∙ sym (take-map free_range_of (length told) found)

pub returns : goal.returns
returns c =
    let l = c.loop-index in
    let full : l.index ≡ length l.ranges = omega arith in
    let P : ℕ → Type 0 = λ n. take n l.ranges ≡ map free_range_of (take n c.args.found.now) in
    record {
      told = told_in_full c.args.found.now l.ranges (omega arith) (subst P full l.invariant.told);
      rest = nothing_behind l.ranges c.args.ranges.now (length c.args.found.now) (omega arith) (omega arith);
    }
