use Rattle.std.proofs.Common.{◌≡◌, ◌<◌, ◌^◌, inl, inr, arith}
use Rattle.std.proofs.lemmas.Bool.{cases_lt}
use Rattle.gpu_alloc_runs.proofs.Bits.{bits_from, lowest_after, lowest_least, lowest_none, lowest_set, none_from}
use Rattle.gpu_alloc_runs.proofs.classes.lowest_from.Goals as goal

pub returns-clause-from : goal.returns-clause-from
returns-clause-from c =
    let few : c.args.bits < 2 ^ 64 = omega arith in
    elim (cases_lt 0 (bits_from c.args.bits c.args.from)) [
      | inl some ↦ lowest_after c.args.bits c.args.from few c.requires some
      | inr none ↦ omega (arith, lowest_none c.args.bits c.args.from few c.requires (omega (arith, none)), c.requires)
    ]

pub returns-clause-least : goal.returns-clause-least
returns-clause-least c i le less =
    let few : c.args.bits < 2 ^ 64 = omega arith in
    elim (cases_lt 0 (bits_from c.args.bits c.args.from)) [
      | inl some ↦ lowest_least c.args.bits c.args.from few c.requires some i le less
      | inr none ↦
          let zero' : bits_from c.args.bits c.args.from ≡ 0 = omega (arith, none) in
          none_from c.args.bits c.args.from few c.requires zero' i le (omega (arith, less, lowest_none c.args.bits c.args.from few c.requires zero'))
    ]

pub returns-clause-set : goal.returns-clause-set
returns-clause-set c less =
    let few : c.args.bits < 2 ^ 64 = omega arith in
    elim (cases_lt 0 (bits_from c.args.bits c.args.from)) [
      | inl some ↦ lowest_set c.args.bits c.args.from few c.requires some
      | inr none ↦ absurd (omega (arith, less, lowest_none c.args.bits c.args.from few c.requires (omega (arith, none))))
    ]
