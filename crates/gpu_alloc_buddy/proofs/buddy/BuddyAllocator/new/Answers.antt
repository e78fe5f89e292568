use Rattle.std.proofs.Common.{◌≡◌, ◌+◌, ◌^◌, refl, sym, ◌∙◌, ap, arith}
use Rattle.std.specs.Prelude.{max}
use Rattle.gpu_alloc_types.specs.Flags.{property_bits}
use Rattle.gpu_alloc_base.specs.Sizes.{next_power_of_two}
use Rattle.gpu_alloc_base.proofs.AlignedPowers.{power_up_to}
use Rattle.gpu_alloc_base.proofs.InHand.{holds_nothing}
use Rattle.gpu_alloc_base.proofs.PowersOfTwo.{greater_power, power_is_next, power_of_bit}
use Rattle.gpu_alloc_buddy.proofs.buddy.BuddyAllocator.new.Given.{Over}
use Rattle.gpu_alloc_buddy.proofs.buddy.BuddyAllocator.new.Goals.{After-next_order}
use Rattle.gpu_alloc_buddy.proofs.buddy.BuddyAllocator.new.Goals as goal

next : (g : Over) (c : After-next_order g) → 2 ^ c.next_order.result ≡ max c.args.initial_dedicated_size c.args.minimal_size
next g c =
    let both = greater_power c.args.initial_dedicated_size c.args.minimal_size (power_of_bit c.args.initial_dedicated_size c.requires.initial) (power_of_bit c.args.minimal_size c.requires.minimal) in
    sym c.next_order.ensures.least ∙ ap next_power_of_two c.max.ensures
    ∙ power_is_next (max c.args.initial_dedicated_size c.args.minimal_size) both.0 both.1 (omega (arith, c.ranges.minimal_size.fits, c.ranges.initial_dedicated_size.fits))

pub invariant_of-result : goal.invariant_of-result
invariant_of-result g c = record {
  space = c.keeps_exact.ensures.sound;
  next_chunk = power_up_to 63 (2 ^ c.next_order.result) (c.next_order.result, refl) (omega (arith, next g c, c.ranges.minimal_size.fits, c.ranges.initial_dedicated_size.fits));
  minimal = power_up_to 63 c.args.minimal_size (power_of_bit c.args.minimal_size c.requires.minimal) (omega (arith, c.ranges.minimal_size.fits));
  atom = power_up_to 62 (c.args.atom_mask + 1) (power_of_bit (c.args.atom_mask + 1) c.requires.atom) (omega (arith, c.requires.atom_bound));
}

pub returns-clause-opened : goal.returns-clause-opened
returns-clause-opened g c = rw (c.in-Ok.ensures.empty, next g c) refl

pub returns-clause-sound : goal.returns-clause-sound
returns-clause-sound g c = invariant_of-result g c

pub returns-clause-empty : goal.returns-clause-empty
returns-clause-empty g c = rw (c.in-Ok.ensures.empty) (refl, refl, holds_nothing c.args.memory_type (property_bits c.args.props))
