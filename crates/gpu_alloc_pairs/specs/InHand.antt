-- How pairs change when a half of one gets another use, or one is added or removed, and what is in hand meanwhile.
use Rattle.std.specs.Prelude.{◌≡◌, ◌≢◌, ◌⊎◌, ℕ, ◌^◌, Bool, Option, Some, None}
use Rattle.std.specs.FinMap as map
use Rattle.gpu_alloc_base.specs.Accounts.{HeldChunks}
use Rattle.gpu_alloc_base.specs.Chunks.{Chunk}
use Rattle.gpu_alloc_base.specs.Pieces.{IsCanonicalBeside}
use Rattle.gpu_alloc_base.specs.declared.piece.Piece.{Piece}
use Rattle.gpu_alloc_pairs.specs.Entry.{Entry, with_use, taken_as}
use Rattle.gpu_alloc_pairs.specs.Space.{BuddySpace, IsFreeAt}
use Rattle.gpu_alloc_pairs.specs.Tree.{Pairs, IsHalf, IsReady, IsUndivided, IsTree}
use Rattle.gpu_alloc_pairs.specs.declared.pair.Parent.{Parent}
use Rattle.gpu_alloc_pairs.specs.declared.pair.Side.{Side}
use Rattle.gpu_alloc_pairs.specs.declared.pair.Use.{Use}
use Rattle.gpu_alloc_pairs.specs.declared.pair.Use.TheVariants.{Free, Taken, Divided}

-- One pair changes.

-- a half gets another use
pub record SetsHalf (P Q : Pairs) (order key : ℕ) (side : Side) (e : Entry) (now : Use) : Type 0 where
  pub was : P order key ≡ Some e
  pub there : Q order key ≡ Some (with_use e side now)
  pub others : (n k : ℕ) → (n ≡ order → k ≡ key → ⊥) → Q n k ≡ P n k

-- a pair is added; read backwards, one is removed
pub record AddsPair (P Q : Pairs) (order key : ℕ) (e : Entry) : Type 0 where
  pub vacant : P order key ≡ None
  pub there : Q order key ≡ Some e
  pub others : (n k : ℕ) → (n ≡ order → k ≡ key → ⊥) → Q n k ≡ P n k

-- What is in hand.

-- a chunk that no pair divides yet
pub record IsUndividedChunk (P : Pairs) (chunks : HeldChunks) (z : Piece) : Type 0 where
  pub chunk : Chunk
  pub held : map.get chunks z.chunk ≡ Some chunk
  pub size : chunk.size ≡ 2 ^ z.order
  pub start : z.start ≡ 0
  pub alone : (n k : ℕ) (f : Entry) → P n k ≡ Some f → f.chunk ≡ z.chunk → ⊥

-- a half that is to be divided
pub record IsToDivide (P : Pairs) (z : Piece) (p : Parent) : Type 0 where
  pub half : IsHalf P z p.key p.side Divided
  pub whole : IsUndivided P z.order p.key p.side

abbrev pub IsHandAt : Pairs → HeldChunks → Piece → Option Parent → Type 0
IsHandAt P chunks z None = IsUndividedChunk P chunks z
IsHandAt P chunks z (Some p) = IsToDivide P z p

-- it is split next
pub record IsSplitting (P : Pairs) (s : BuddySpace) (z : Piece) (o : Option Parent) : Type 0 where
  pub tree : IsTree P s.chunks
  pub hand : IsHandAt P s.chunks z o
  pub beside : IsCanonicalBeside (IsReady P) (IsFreeAt s) z

-- the half is in hand, to be divided or as a block, and no longer free
pub record IsTakenOut (Q : Pairs) (s : BuddySpace) (z : Piece) (key : ℕ) (side : Side) (d : Bool) : Type 0 where
  pub tree : IsTree Q s.chunks
  pub half : IsHalf Q z key side (taken_as d)
  pub whole : IsUndivided Q z.order key side
  pub beside : IsCanonicalBeside (IsReady Q) (IsFreeAt s) z

-- the half is in hand and is being released: it is not free, and no pair divides it
pub record IsReturning (P : Pairs) (s : BuddySpace) (z : Piece) (key : ℕ) (side : Side) : Type 0 where
  pub tree : IsTree P s.chunks
  pub now : Use
  pub half : IsHalf P z key side now
  pub used : now ≡ Free → ⊥
  pub whole : IsUndivided P z.order key side
  pub beside : IsCanonicalBeside (IsReady P) (IsFreeAt s) z

-- Which halves are live blocks.

-- the same as before
pub record IsTakenSame (P Q : Pairs) : Type 0 where
  pub to : (p : Piece) (k : ℕ) (a : Side) → IsHalf P p k a Taken → IsHalf Q p k a Taken
  pub from : (p : Piece) (k : ℕ) (a : Side) → IsHalf Q p k a Taken → IsHalf P p k a Taken

-- and one more
pub record IsTakenMore (P Q : Pairs) (z : Piece) (key : ℕ) (side : Side) : Type 0 where
  pub kept : (p : Piece) (k : ℕ) (a : Side) → IsHalf P p k a Taken → IsHalf Q p k a Taken
  pub added : IsHalf Q z key side Taken
  pub cases : (p : Piece) (k : ℕ) (a : Side) → IsHalf Q p k a Taken
      → ((p ≡ z) × ((k ≡ key) × (a ≡ side))) ⊎ IsHalf P p k a Taken

-- the live blocks of the first other than this piece are those of the second other than that piece
pub record IsTakenBeside (P Q : Pairs) (z w : Piece) : Type 0 where
  pub to : (p : Piece) (k : ℕ) (a : Side) → IsHalf P p k a Taken → p ≢ z → IsHalf Q p k a Taken × (p ≢ w)
  pub from : (p : Piece) (k : ℕ) (a : Side) → IsHalf Q p k a Taken → p ≢ w → IsHalf P p k a Taken × (p ≢ z)

-- the live blocks of the first other than this piece are those of the second
pub record IsTakenLess (P Q : Pairs) (z : Piece) : Type 0 where
  pub to : (p : Piece) (k : ℕ) (a : Side) → IsHalf P p k a Taken → p ≢ z → IsHalf Q p k a Taken
  pub from : (p : Piece) (k : ℕ) (a : Side) → IsHalf Q p k a Taken → IsHalf P p k a Taken × (p ≢ z)
