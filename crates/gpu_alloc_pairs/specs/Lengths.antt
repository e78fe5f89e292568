-- What happens to pairs of all lengths.
use Rattle.std.specs.Prelude.{◌≡◌, ◌≢◌, ℕ, ◌+◌, ◌-◌, ◌^◌, ◌≤◌, ◌<◌, Bool, List, false, map, slice_index_or, Option, Some, None}
use Rattle.std.specs.FinMap as finite
use Rattle.slab.specs.Slab.{Slab, HasRoomFor}
use Rattle.gpu_alloc_base.specs.Chunks.{Chunk}
use Rattle.gpu_alloc_base.specs.Pieces.{IsCanonical, IsCanonicalBeside}
use Rattle.gpu_alloc_base.specs.declared.piece.Piece.{Piece}
use Rattle.gpu_alloc_pairs.specs.Entry.{Entry, use_of, other_side, taken_as}
use Rattle.gpu_alloc_pairs.specs.InHand.{AddsPair, IsReturning, IsTakenLess, IsTakenMore, IsTakenOut, IsUndividedChunk, SetsHalf}
use Rattle.gpu_alloc_pairs.specs.Space.{BuddySpace, IsFreeAt}
use Rattle.gpu_alloc_pairs.specs.Tree.{IsReady, IsTree, Pairs, no_pairs}
use Rattle.gpu_alloc_pairs.specs.declared.length.Half.{Half}
use Rattle.gpu_alloc_pairs.specs.declared.length.Whole.{Whole}
use Rattle.gpu_alloc_pairs.specs.declared.lengths.Found.{Found}
use Rattle.gpu_alloc_pairs.specs.declared.lengths.Front.{Front}
use Rattle.gpu_alloc_pairs.specs.declared.lengths.Hand.{Hand}
use Rattle.gpu_alloc_pairs.specs.declared.pair.Parent.{Parent}
use Rattle.gpu_alloc_pairs.specs.declared.pair.Side.{Side}
use Rattle.gpu_alloc_pairs.specs.declared.pair.Use.TheVariants.{Free}

-- the piece that is in hand
abbrev pub hand_of : Hand → Piece
hand_of hand = record { chunk = hand.chunk; start = hand.offset; order = hand.order }

-- its front of this order
abbrev pub front_of : Hand → ℕ → Piece
front_of hand order = record { chunk = hand.chunk; start = hand.offset; order = order }

-- the front of a chunk, of this order
abbrev pub whole_of : ℕ → ℕ → Piece
whole_of chunk order = record { chunk = chunk; start = 0; order = order }

-- the pair that divides a piece, with a free right half
abbrev pub dividing : Piece → Option Parent → Bool → Entry
dividing z o d = record { chunk = z.chunk; offset = z.start; parent = o; left = taken_as d; right = Free }

-- no half of this order is free
abbrev pub FindsNone : Pairs → ℕ → Type 0
FindsNone P order = (key : ℕ) (e : Entry) (side : Side) → P order key ≡ Some e → use_of e side ≢ Free

-- this half is free
pub record IsFreeHalf (P : Pairs) (order : ℕ) (h : Half) : Type 0 where
  pub entry : Entry
  pub at : P order h.key ≡ Some entry
  pub free : use_of entry h.side ≡ Free
  pub chunk : h.chunk ≡ entry.chunk
  pub offset : h.offset ≡ entry.offset

-- no half of these orders is free
abbrev pub FindsNoneUpTo : Pairs → ℕ → ℕ → Type 0
FindsNoneUpTo P low high = (n : ℕ) → low ≤ n → n < high → FindsNone P n

-- a free half of the first order from this one on that has one
pub record IsFound (P : Pairs) (order : ℕ) (f : Found) : Type 0 where
  pub from : order ≤ f.order
  pub to : f.order < 63
  pub half : IsFreeHalf P f.order f.half
  pub first : FindsNoneUpTo P order f.order

-- each length is looked at once, from this order up to the one in which a half is found, or else to the last
abbrev pub LooksUpTo : ℕ → Option Found → ℕ → ℕ → Type 0
LooksUpTo order None old new = new + order ≡ old + 63
LooksUpTo order (Some f) old new = new + order ≡ old + f.order + 1

-- only the room for pairs changes
abbrev pub HasSameSlots : List (Slab Entry) → List (Slab Entry) → Type 0
HasSameSlots old new = map (λ s. s.slots) new ≡ map (λ s. s.slots) old

-- shorter pairs are unchanged, with the room for more
abbrev pub KeepsShorter : List (Slab Entry) → List (Slab Entry) → ℕ → Type 0
KeepsShorter old new order = (n : ℕ) → n < order → slice_index_or new n no_pairs ≡ slice_index_or old n no_pairs

-- there is room for one more pair of each order from the first up to the second
abbrev pub HasRoomsFor : List (Slab Entry) → ℕ → ℕ → Type 0
HasRoomsFor lengths low high = (n : ℕ) → low ≤ n → n < high → HasRoomFor (slice_index_or lengths n no_pairs) 1

-- there is such a half, and it is not free
pub record HasPair (P : Pairs) (order key : ℕ) (side : Side) : Type 0 where
  pub entry : Entry
  pub at : P order key ≡ Some entry
  pub used : use_of entry side ≢ Free

-- A half was released: it is free, since the other half is not; or its pair was removed, since the other half is free.
abbrev pub Releases : Pairs → Pairs → ℕ → ℕ → Side → Option Whole → Type 0
Releases P Q order key side None =
    (e : Entry) × (SetsHalf P Q order key side e Free × (use_of e (other_side side) ≢ Free))
Releases P Q order key side (Some w) =
    (e : Entry) × ((P order key ≡ Some e) × (AddsPair Q P order key e × ((use_of e (other_side side) ≡ Free)
    × ((w.chunk ≡ e.chunk) × ((w.offset ≡ e.offset) × (w.parent ≡ e.parent))))))

-- a free half is taken
pub record TakesHalf (P Q : Pairs) (order : ℕ) (h : Half) (divided : Bool) : Type 0 where
  pub entry : Entry
  pub sets : SetsHalf P Q order h.key h.side entry (taken_as divided)
  pub free : use_of entry h.side ≡ Free
  pub chunk : h.chunk ≡ entry.chunk
  pub offset : h.offset ≡ entry.offset

-- the block
abbrev pub piece_of : Front → ℕ → Piece
piece_of front order = record { chunk = front.chunk; start = front.offset; order = order }

-- the block was taken out of the free halves, and is live
pub record IsFrontTaken (P Q : Pairs) (s : BuddySpace) (order : ℕ) (front : Front) : Type 0 where
  pub side : Side
  pub out : IsTakenOut Q s (piece_of front order) front.key side false
  pub more : IsTakenMore P Q (piece_of front order) front.key side

-- A half may be released, whatever other blocks are live.

pub record ComesBack (P : Pairs) (order key : ℕ) (side : Side) : Type 0 where
  pub space : BuddySpace
  pub piece : Piece
  pub of_order : piece.order ≡ order
  pub returning : IsReturning P space piece key side

-- it is then free, and the other live blocks are the same
pub record IsFreeAgain (P Q : Pairs) (s : BuddySpace) (z : Piece) : Type 0 where
  pub tree : IsTree Q s.chunks
  pub canonical : IsCanonical (IsReady Q) (IsFreeAt s)
  pub less : IsTakenLess P Q z

abbrev pub StaysFree : Pairs → Pairs → ℕ → ℕ → Side → Type 0
StaysFree P Q order key side = (s : BuddySpace) (z : Piece) → z.order ≡ order → IsReturning P s z key side → IsFreeAgain P Q s z

-- or its whole chunk is in hand, and the other live blocks are the same
pub record IsWholeAgain (P Q : Pairs) (s : BuddySpace) (z : Piece) (chunk : ℕ) : Type 0 where
  pub tree : IsTree Q s.chunks
  pub whole : Piece
  pub named : whole.chunk ≡ chunk
  pub of_piece : whole.chunk ≡ z.chunk
  pub alone : IsUndividedChunk Q s.chunks whole
  pub beside : IsCanonicalBeside (IsReady Q) (IsFreeAt s) whole
  pub less : IsTakenLess P Q z

abbrev pub GoesWhole : Pairs → Pairs → ℕ → ℕ → Side → ℕ → Type 0
GoesWhole P Q order key side chunk =
    (s : BuddySpace) (z : Piece) → z.order ≡ order → IsReturning P s z key side → IsWholeAgain P Q s z chunk

-- at most as many halves are released as there are doublings from the half to its chunk
abbrev pub FewReleases : Pairs → ℕ → ℕ → Side → ℕ → ℕ → Type 0
FewReleases P order key side old new =
    (s : BuddySpace) (z : Piece) → z.order ≡ order → IsReturning P s z key side → (chunk : Chunk)
    → finite.get s.chunks z.chunk ≡ Some chunk → 2 ^ (order + (new - old)) ≤ chunk.size
