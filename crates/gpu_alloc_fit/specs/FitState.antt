-- What an allocator of exact runs keeps.
use Rattle.std.specs.Prelude.{ℕ}
use Rattle.gpu_alloc_base.specs.declared.free_list_block.Slot.{Slot}
use Rattle.gpu_alloc_runs.specs.Space.{FitSpace, with_chunk, with_slot}
use Rattle.gpu_alloc_shared.specs.Sized.{SizedState, next_size}

-- its space, and the sizes of what it gives out
abbrev pub FitState : Type 0
FitState = SizedState FitSpace

-- one more block is live
abbrev pub fitting_with_slot : FitState → Slot → FitState
fitting_with_slot f slot = record f { space = with_slot f.space slot }

-- one more chunk is held, with the block at its front
abbrev pub fitting_in_new_chunk : FitState → Slot → ℕ → FitState
fitting_in_new_chunk f slot whole =
    record f { space = with_slot (with_chunk f.space slot whole) slot; next_chunk = next_size f whole }
