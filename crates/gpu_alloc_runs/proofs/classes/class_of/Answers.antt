use Rattle.std.proofs.Common.{◌/◌, ◌^◌, sym, arith}
use Rattle.std.proofs.lemmas.Nat.{div_below}
use Rattle.gpu_alloc_runs.specs.Classes.{class_of_bytes}
use Rattle.gpu_alloc_runs.proofs.Lengths.{are_open, high_class, low_class, open_bits}
use Rattle.gpu_alloc_runs.proofs.classes.class_of.Goals as goal

pub returns-then-grains-lt64-clause-class : goal.returns-then-grains-lt64-clause-class
unfolding class_of_bytes
returns-then-grains-lt64-clause-class c = sym (low_class (c.args.bytes / 256) c.if-grains-lt64.true)

pub overflow_sub-low_bits : goal.overflow_sub-low_bits
overflow_sub-low_bits c =
    let open_are = are_open (c.args.bytes / 256) c.if-grains-lt64.false (div_below c.args.bytes 256 (2 ^ 56) (omega arith) (omega arith)) in
    omega (arith, open_are.some)

pub returns-clause-class : goal.returns-clause-class
unfolding class_of_bytes
returns-clause-class c = sym (high_class (c.args.bytes / 256) (open_bits (c.args.bytes / 256)) (are_open (c.args.bytes / 256) c.if-grains-lt64.false (div_below c.args.bytes 256 (2 ^ 56) (omega arith) (omega arith))))

pub returns-clause-below : goal.returns-clause-below
returns-clause-below c =
    let open_are = are_open (c.args.bytes / 256) c.if-grains-lt64.false (div_below c.args.bytes 256 (2 ^ 56) (omega arith) (omega arith)) in
    omega (arith, open_are.most, open_are.below)
