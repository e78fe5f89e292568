use Rattle.std.proofs.Common.{◌≡◌, ◌+◌, ◌-◌, ◌/◌, ◌*◌, ◌%◌, ◌^◌, bit_and, sym, ◌∙◌, ap, arith}
use Rattle.std.proofs.lemmas.Nat.{and_mask, div-add-mod'}
use Rattle.gpu_alloc_base.proofs.PowersOfTwo.{power_of_bit}
use Rattle.gpu_alloc_runs.proofs.search.last_start.Goals as goal

pub returns : goal.returns
returns c =
    let last = c.args.end - c.args.size in
    let k = power_of_bit (c.args.align_mask + 1) c.requires.alignment.power in
    let mask : c.args.align_mask ≡ 2 ^ k.0 - 1 = omega (arith, k.1) in
    let low : bit_and last c.args.align_mask ≡ last % (c.args.align_mask + 1) = ap (bit_and last) mask ∙ and_mask last k.0 ∙ ap (λ n. last % n) (sym k.1) in
    let all : last / (c.args.align_mask + 1) * (c.args.align_mask + 1) + last % (c.args.align_mask + 1) ≡ last = div-add-mod' last (c.args.align_mask + 1) in
    omega (arith, low, all)
