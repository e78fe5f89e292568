use Rattle.gpu_alloc_buddy.specs.BuddyState.{IsFreeInBuddy}
use Rattle.gpu_alloc.specs.FreeBytes.{IsFreeByte}
use Rattle.gpu_alloc_base.proofs.ExactPieces.{one_free_piece}
use Rattle.gpu_alloc.proofs.laws.free_pieces_are_apart.Goals as goal

pub returns-clause-in_chunks : goal.returns-clause-in_chunks
returns-clause-in_chunks c = λ b. one_free_piece (IsFreeInBuddy b)

pub returns-clause-in_objects : goal.returns-clause-in_objects
returns-clause-in_objects c = λ s memory_type kind. one_free_piece (IsFreeByte s memory_type kind)
