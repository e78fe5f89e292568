-- What contracts see of a pair: where it lies, what it divides, and what its halves are used for. They do not see its
-- place in a ring.
use Rattle.std.specs.Prelude.{ℕ, ◌+◌, Bool, true, false, Option}
use Rattle.gpu_alloc_pairs.specs.declared.pair.Pair.{Pair}
use Rattle.gpu_alloc_pairs.specs.declared.pair.Parent.{Parent}
use Rattle.gpu_alloc_pairs.specs.declared.pair.Side.{Side}
use Rattle.gpu_alloc_pairs.specs.declared.pair.Side.TheVariants.{Left, Right}
use Rattle.gpu_alloc_pairs.specs.declared.pair.State.{State}
use Rattle.gpu_alloc_pairs.specs.declared.pair.State.TheVariants.{Exhausted, Ready}
use Rattle.gpu_alloc_pairs.specs.declared.pair.Use.{Use}
use Rattle.gpu_alloc_pairs.specs.declared.pair.Use.TheVariants.{Free, Taken, Divided}

-- a pair by its chunk's key, the start of its left half, what it divides, and what its halves are used for
pub record Entry : Type 0 where
  pub chunk : ℕ
  pub offset : ℕ
  pub parent : Option Parent
  pub left : Use
  pub right : Use

abbrev pub use_of : Entry → Side → Use
use_of e Left = e.left
use_of e Right = e.right

-- one half is used for something else
abbrev pub with_use : Entry → Side → Use → Entry
with_use e Left now = record e { left = now }
with_use e Right now = record e { right = now }

abbrev pub other_side : Side → Side
other_side Left = Right
other_side Right = Left

-- the use of a half that is not free
abbrev pub taken_as : Bool → Use
taken_as true = Divided
taken_as false = Taken

-- where a half starts, by its pair's offset and its length
abbrev pub half_start : ℕ → ℕ → Side → ℕ
half_start length offset Left = offset
half_start length offset Right = offset + length

-- A stored pair as contracts see it.

abbrev pub use_in : State → Side → Bool → Use
use_in Exhausted side divided = taken_as divided
use_in (Ready Left next prev) Left divided = Free
use_in (Ready Left next prev) Right divided = taken_as divided
use_in (Ready Right next prev) Left divided = taken_as divided
use_in (Ready Right next prev) Right divided = Free

abbrev pub entry_of : Pair → Entry
entry_of p = record {
  chunk = p.chunk;
  offset = p.offset;
  parent = p.parent;
  left = use_in p.state Left p.left_divided;
  right = use_in p.state Right p.right_divided;
}
