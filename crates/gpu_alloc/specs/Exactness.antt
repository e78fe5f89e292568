-- Lists of pieces and of regions against the bytes that are free.
use Rattle.std.specs.Prelude.{◌≡◌, ◌↔◌, ℕ, ◌^◌, ◌<◌, ◌≤◌, List, Contains}
use Rattle.gpu_alloc_base.specs.FreeRuns.{IsSpaced, IsFreeRun, HasRoom}
use Rattle.gpu_alloc_base.specs.FreeSpace.{IsIn, IsPlace, IsFreePiece}
use Rattle.gpu_alloc_base.specs.Pieces.{IsCanonical}
use Rattle.gpu_alloc_base.specs.declared.piece.Piece.{Piece}
use Rattle.gpu_alloc_base.specs.declared.region.FreeListRegion.{FreeListRegion}

-- F says which bytes of which chunks, or of which objects, are free.
module _ (F : ℕ → ℕ → Type 0) where
  -- the pieces are the free bytes in canonical form
  abbrev pub AreCanonical : List Piece → Type 0
  AreCanonical pieces = IsCanonical (Contains pieces) F

  -- the list has exactly the free pieces
  abbrev pub AreFreePieces : List Piece → Type 0
  AreFreePieces pieces = (p : Piece) → Contains pieces p ↔ IsFreePiece F p.chunk p.start (2 ^ p.order)

  -- for each place the list has a piece that is at least as long
  abbrev pub AreLongEnough : List Piece → Type 0
  AreLongEnough pieces =
      (chunk start order : ℕ) → IsPlace F chunk start (2 ^ order) → (p : Piece) × Contains pieces p × (order ≤ p.order)

  -- two free pieces that share a byte are the same piece
  abbrev pub ArePiecesApart : Type 0
  ArePiecesApart =
      (chunk a n b m at : ℕ) → IsFreePiece F chunk a n → IsFreePiece F chunk b m → IsIn a n at → IsIn b m at
      → (a ≡ b) × (n ≡ m)

  -- the regions are not empty, no two overlap or touch, and together they are the free bytes
  abbrev pub AreSpaced : List FreeListRegion → Type 0
  AreSpaced regions = IsSpaced F (Contains regions)

  -- the list has exactly the free runs
  abbrev pub AreFreeRuns : List FreeListRegion → Type 0
  AreFreeRuns regions = (r : FreeListRegion) → Contains regions r ↔ IsFreeRun F r.chunk r.start r.end

-- there is a place for a block of a size, at a multiple of a power of two, exactly where some region has room for it
abbrev pub TellPlaces : (ℕ → ℕ → Type 0) → List FreeListRegion → Type 0
TellPlaces HasPlace regions =
    (size order : ℕ) → 0 < size → HasPlace size (2 ^ order)
    ↔ ((r : FreeListRegion) × Contains regions r × HasRoom size (2 ^ order) r.start r.end)
