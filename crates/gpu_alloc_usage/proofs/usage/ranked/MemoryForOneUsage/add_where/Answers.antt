use Rattle.std.proofs.Common.{◌≡◌, ◌+◌, ◌*◌, ◌^◌, ◌%◌, ◌<◌, ◌∙◌, sym, ap, arith, take, slice_set, bit_or}
use Rattle.std.proofs.lemmas.Grind.{common_steps}
use Rattle.std.proofs.lemmas.List.{take_more_set}
use Rattle.gpu_alloc_usage.specs.Masks.{with_bits}
use Rattle.gpu_alloc_usage.proofs.Ranking.Masks.{with_bits-more, shifted_one}
use Rattle.gpu_alloc_usage.proofs.usage.ranked.MemoryForOneUsage.add_where.Goals as goal

pub invariant_of-self : goal.invariant_of-self
invariant_of-self c =
    let row = c.args.self.now in
    let index = c.args.index in
    let room : row.count < 32 = grind (arith, common_steps) in
    let exact : bit_or row.mask (1 * 2 ^ index % 4294967296) ≡ with_bits 0 (take (row.count + 1) (slice_set row.types row.count index)) =
    rw (shifted_one index c.requires.bit, take_more_set row.types row.count index (omega arith))
    (ap (λ m. bit_or m (2 ^ index)) row.exact ∙ sym (with_bits-more 0 (take row.count row.types) index)) in
    record { in_range = omega arith; exact = exact }
