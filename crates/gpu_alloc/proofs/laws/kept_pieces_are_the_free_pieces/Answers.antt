use Rattle.std.specs.List.{Contains}
use Rattle.gpu_alloc_buddy.specs.BuddyState.{IsFreeInBuddy}
use Rattle.gpu_alloc.specs.FreeBytes.{IsFreeByte}
use Rattle.gpu_alloc_base.proofs.ExactPieces.{kept_is_free_piece, free_piece_is_kept, piece_for_place}
use Rattle.gpu_alloc.proofs.laws.kept_pieces_are_the_free_pieces.Goals as goal

pub returns-clause-exact : goal.returns-clause-exact
returns-clause-exact c = λ b pieces kept p. (kept_is_free_piece (Contains pieces) (IsFreeInBuddy b) kept p, free_piece_is_kept (Contains pieces) (IsFreeInBuddy b) kept p)

pub returns-clause-place : goal.returns-clause-place
returns-clause-place c = λ b pieces kept chunk start order place. piece_for_place (Contains pieces) (IsFreeInBuddy b) kept chunk order start place.aligned place.free

pub returns-clause-exact_in_objects : goal.returns-clause-exact_in_objects
returns-clause-exact_in_objects c = λ s memory_type kind pieces kept p.
    let free = IsFreeByte s memory_type kind in
    (kept_is_free_piece (Contains pieces) free kept p, free_piece_is_kept (Contains pieces) free kept p)

pub returns-clause-place_in_objects : goal.returns-clause-place_in_objects
returns-clause-place_in_objects c = λ s memory_type kind pieces kept object start order place.
    piece_for_place (Contains pieces) (IsFreeByte s memory_type kind) kept object order start place.aligned place.free
