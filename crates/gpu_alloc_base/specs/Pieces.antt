-- Free pieces as they are kept, and how they change step by step.
use Rattle.std.specs.Prelude.{◌≡◌, ℕ, ◌+◌, ◌*◌, ◌^◌, ◌⊎◌, Bool, ◌==◌, ◌&&◌}
use Rattle.gpu_alloc_base.specs.FreeSpace.{IsIn, IsMultipleOf}
use Rattle.gpu_alloc_base.specs.declared.piece.Piece.{Piece}

abbrev pub InPiece : Piece → ℕ → Type 0
InPiece p at = IsIn p.start (2 ^ p.order) at

-- p and q are the left and the right half of one aligned range
pub record AreHalves (p q : Piece) : Type 0 where
  pub chunk : q.chunk ≡ p.chunk
  pub order : q.order ≡ p.order
  pub beside : q.start ≡ p.start + 2 ^ p.order
  pub aligned : IsMultipleOf (2 * 2 ^ p.order) p.start

-- the range whose left half is p
abbrev pub joined : Piece → Piece
joined p = record { chunk = p.chunk; start = p.start; order = p.order + 1 }

-- the kept pieces are aligned and apart, no two are halves of one range, and together they are the free bytes
pub record IsCanonical (Has : Piece → Type 0) (F : ℕ → ℕ → Type 0) : Type 0 where
  pub aligned : (p : Piece) → Has p → IsMultipleOf (2 ^ p.order) p.start
  pub apart : (p q : Piece) → Has p → Has q → p.chunk ≡ q.chunk → (at : ℕ) → InPiece p at → InPiece q at → p ≡ q
  pub no_halves : (p q : Piece) → Has p → Has q → AreHalves p q → ⊥
  pub free : (p : Piece) → Has p → (at : ℕ) → InPiece p at → F p.chunk at
  pub covers : (chunk at : ℕ) → F chunk at → (p : Piece) × Has p × (p.chunk ≡ chunk) × InPiece p at

-- the free bytes without those of the piece
abbrev pub Without : (ℕ → ℕ → Type 0) → Piece → ℕ → ℕ → Type 0
Without F x chunk at = F chunk at × (chunk ≡ x.chunk → InPiece x at → ⊥)

-- new has the pieces of old, and x
pub record IsWith (old new : Piece → Type 0) (x : Piece) : Type 0 where
  pub kept : (p : Piece) → old p → new p
  pub added : new x
  pub cases : (p : Piece) → new p → (p ≡ x) ⊎ old p

-- x is in hand: the other free bytes are kept in canonical form
pub record IsCanonicalBeside (Has : Piece → Type 0) (F : ℕ → ℕ → Type 0) (x : Piece) : Type 0 where
  pub canonical : IsCanonical Has (Without F x)
  pub aligned : IsMultipleOf (2 ^ x.order) x.start
  pub inside : (at : ℕ) → InPiece x at → F x.chunk at

-- two pieces that start at the same byte
abbrev pub same_place : Piece → Piece → Bool
same_place p q = (p.chunk == q.chunk) && (p.start == q.start)
