-- The free half of a pair as a piece.
use Rattle.std.specs.Prelude.{◌≡◌, ℕ, List, [], ◌∷◌, map, Option, Some, None}
use Rattle.gpu_alloc_base.specs.declared.piece.Piece.{Piece}
use Rattle.gpu_alloc_pairs.specs.Entry.{Entry}
use Rattle.gpu_alloc_pairs.specs.Halves.{halves_of_pair}
use Rattle.gpu_alloc_pairs.specs.declared.pair.Use.TheVariants.{Free}

-- the pieces of a pair's free halves, of which there is at most one
abbrev pub pieces_of_pair : ℕ → ℕ × Entry → List Piece
pieces_of_pair order pair = map (λ h. h.piece) (halves_of_pair Free order pair)

abbrev pub piece_or_none : Option Piece → List Piece
piece_or_none None = []
piece_or_none (Some p) = p ∷ []

-- the piece is the pair's free half, or the pair has no free half
abbrev pub IsFreeHalfOf : ℕ → Entry → Option Piece → Type 0
IsFreeHalfOf order e piece = (key : ℕ) → pieces_of_pair order (key, e) ≡ piece_or_none piece
