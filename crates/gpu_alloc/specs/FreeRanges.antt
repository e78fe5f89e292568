-- What is free in the shared chunks of a memory type.
use Rattle.std.specs.Prelude.{◌≡◌, ◌⊎◌, ℕ, ◌+◌, ◌<◌, ◌≤◌, Bool, true, false}
use Rattle.gpu_alloc_types.specs.declared.types.FreeRange.{FreeRange}
use Rattle.gpu_alloc_base.specs.FreeRuns.{IsFreeRun}
use Rattle.gpu_alloc_base.specs.FreeSpace.{IsFreePiece}
use Rattle.gpu_alloc_block.specs.State.{State, is_shared}
use Rattle.gpu_alloc_block.specs.declared.block.Kind.{Kind}
use Rattle.gpu_alloc_block.specs.declared.block.Kind.TheVariants.{Dedicated, Imported, BuddyChunk, FreeListChunk, FitChunk}
use Rattle.gpu_alloc.specs.FreeBytes.{IsFreeByte}

-- the range is a free piece of a buddy chunk of the memory type
pub record IsFreePieceOf (s : State) (t : ℕ) (r : FreeRange) : Type 0 where
  pub length : ℕ
  pub end : r.end ≡ r.start + length
  pub piece : IsFreePiece (IsFreeByte s t BuddyChunk) r.object r.start length

-- whether the free space of an object of this kind is in runs, of any length and from any byte on
abbrev pub has_runs : Kind → Bool
has_runs Dedicated = false
has_runs Imported = false
has_runs BuddyChunk = false
has_runs (FreeListChunk number) = true
has_runs FitChunk = true

-- the range is a free run of a chunk of the memory type's free list, or of a fit chunk
pub record IsFreeRunOf (s : State) (t : ℕ) (r : FreeRange) : Type 0 where
  pub kind : Kind
  pub in_runs : has_runs kind ≡ true
  pub run : IsFreeRun (IsFreeByte s t kind) r.object r.start r.end

-- it is the one or the other
abbrev pub IsFreeRangeOf : State → ℕ → FreeRange → Type 0
IsFreeRangeOf s t r = IsFreePieceOf s t r ⊎ IsFreeRunOf s t r

-- the byte lies in the range
pub record HasByte (r : FreeRange) (object at : ℕ) : Type 0 where
  pub of : r.object ≡ object
  pub from : r.start ≤ at
  pub to : at < r.end

-- the byte is free, in a shared chunk of the memory type
pub record IsFreeOf (s : State) (t object at : ℕ) : Type 0 where
  pub kind : Kind
  pub shared : is_shared kind ≡ true
  pub free : IsFreeByte s t kind object at
