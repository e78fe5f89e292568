use Rattle.std.proofs.Common.{◌∙◌, ap, cond, sym}
use Rattle.std.specs.Int.{w64}
use Rattle.std.proofs.lemmas.Nat.Bits.{bit_at_clear_other, bit_at_clear_same, bit_at_set_other, bit_at_set_same}
use Rattle.gpu_alloc_runs.proofs.classes.with_bit.Goals as goal

pub returns-then-on-clause-written : goal.returns-then-on-clause-written
returns-then-on-clause-written c = bit_at_set_same w64 c.args.bits c.args.place c.requires ∙ ap (λ b. cond b 1 0) (sym c.if-on.true)

pub returns-then-on-clause-others : goal.returns-then-on-clause-others
returns-then-on-clause-others c i less ne = bit_at_set_other w64 c.args.bits c.args.place c.requires i ne

pub returns-else-on-clause-written : goal.returns-else-on-clause-written
returns-else-on-clause-written c = bit_at_clear_same w64 c.args.bits c.args.place c.requires ∙ ap (λ b. cond b 1 0) (sym c.if-on.false)

pub returns-else-on-clause-others : goal.returns-else-on-clause-others
returns-else-on-clause-others c i less ne = bit_at_clear_other w64 c.args.bits c.args.place c.requires i less ne
