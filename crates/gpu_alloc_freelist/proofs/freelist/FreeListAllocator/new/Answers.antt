use Rattle.std.proofs.Common.{◌+◌, refl, arith}
use Rattle.gpu_alloc_types.specs.Flags.{property_bits}
use Rattle.gpu_alloc_base.proofs.AlignedPowers.{power_up_to}
use Rattle.gpu_alloc_base.proofs.InHand.{holds_nothing}
use Rattle.gpu_alloc_freelist.specs.FreeList.{no_list_space}
use Rattle.gpu_alloc_freelist.proofs.FreeListEmpty.{none_held, none_live, sound_space}
use Rattle.gpu_alloc_base.proofs.PowersOfTwo.{power_of_bit}
use Rattle.gpu_alloc_shared.specs.Sized.{AreSizes}
use Rattle.gpu_alloc_shared.proofs.Sized.{sound_none}
use Rattle.gpu_alloc_freelist.proofs.freelist.FreeListAllocator.new.Goals as goal

pub invariant_of-result : goal.invariant_of-result
invariant_of-result g c =
    let power = power_up_to 62 (c.args.atom_mask + 1) (power_of_bit (c.args.atom_mask + 1) c.requires.atom) (omega (arith, c.requires.atom_bound)) in
    let sizes : AreSizes c.args.starting_chunk_size c.args.final_chunk_size (c.args.atom_mask + 1) = record {
      next_chunk = ((c.requires.starting, c.requires.nonempty), c.requires.growing);
      final_chunk = (c.requires.largest, c.requires.bound);
      power = power;
    } in
    rw c.new.ensures.empty (sound_none no_list_space c.args.starting_chunk_size c.args.final_chunk_size c.args.memory_type (property_bits c.args.props) (c.args.atom_mask + 1) sound_space none_held none_live sizes)

pub returns-clause-sound : goal.returns-clause-sound
returns-clause-sound g c = invariant_of-result g c

pub returns-clause-empty : goal.returns-clause-empty
returns-clause-empty g c = rw c.new.ensures.empty (refl, refl, holds_nothing c.args.memory_type (property_bits c.args.props))
