-- What holds of an allocator between calls.
use Rattle.std.specs.Prelude.{◌≡◌, ◌≢◌, ℕ, ◌+◌, ◌<◌, ◌≤◌, Bool, true, false, Some, IfSome, length}
use Rattle.std.specs.FinMap as map
use Rattle.gpu_alloc_base.specs.FreeSpace.{IsMultipleOf, IsPowerOfTwo}
use Rattle.gpu_alloc_block.specs.declared.block.Kind.{Kind}
use Rattle.gpu_alloc_block.specs.declared.block.Kind.TheVariants.{Dedicated, Imported, BuddyChunk, FreeListChunk, FitChunk}
use Rattle.gpu_alloc.specs.Budget.{AreLimits, IsWithinHeaps}
use Rattle.gpu_alloc.specs.FitSharing.{IsFitChunk, IsFitSize, grain_of, next_fit_chunk}
use Rattle.gpu_alloc.specs.FreeListSharing.{IsListChunk, latest_number}
use Rattle.gpu_alloc_block.specs.declared.sharing.Sharing.{Sharing}
use Rattle.gpu_alloc_block.specs.declared.sharing.Sharing.TheVariants.{Buddy, Fit}
use Rattle.gpu_alloc_block.specs.State.{HeldObject, Span, State, IsLive, AreSpansApart, is_shared}

-- whether an object may be held in which nothing is live: a free-list chunk, or a fit chunk
abbrev pub may_be_unused : Kind → Bool
may_be_unused Dedicated = false
may_be_unused Imported = false
may_be_unused BuddyChunk = false
may_be_unused (FreeListChunk number) = true
may_be_unused FitChunk = true

-- buddy chunks are held only where they are chosen, and fit chunks only where they are
abbrev pub is_chosen : Sharing → Kind → Bool
is_chosen sharing Dedicated = true
is_chosen sharing Imported = true
is_chosen Buddy BuddyChunk = true
is_chosen Fit BuddyChunk = false
is_chosen sharing (FreeListChunk number) = true
is_chosen Buddy FitChunk = false
is_chosen Fit FitChunk = true

-- a span of the object is live
abbrev pub HasLiveSpan : State → ℕ → Type 0
HasLiveSpan s object = (span : Span) × IsLive s span × (span.object ≡ object)

-- how a live span lies in an object of this kind that counts this many bytes. It is the whole of an object of its own.
-- Of an import it has as many bytes, and agreement says where they lie. In a chunk it lies inside
abbrev pub LiesIn : Kind → ℕ → Span → Type 0
LiesIn Dedicated counted span = (span.offset ≡ 0) × (span.size ≡ counted)
LiesIn Imported counted span = span.size ≡ counted
LiesIn BuddyChunk counted span = span.offset + span.size ≤ counted
LiesIn (FreeListChunk number) counted span = span.offset + span.size ≤ counted
LiesIn FitChunk counted span = span.offset + span.size ≤ counted

-- no span of the object is live
abbrev pub IsUnused : State → ℕ → Type 0
IsUnused s object = (span : Span) → IsLive s span → span.object ≢ object

pub record IsSound (s : State) : Type 0 where
  -- a live span is not empty
  pub nonempty : (span : Span) → IsLive s span → 0 < span.size
  -- it lies in its object, which is held
  pub inside : (span : Span) → IsLive s span → (h : HeldObject) × (map.get s.held span.object ≡ Some h)
      × LiesIn h.kind h.counted span
  -- in an object of one block it is alone
  pub alone : (object : ℕ) (h : HeldObject) → map.get s.held object ≡ Some h → is_shared h.kind ≡ false
      → (x y : Span) → IsLive s x → IsLive s y → x.object ≡ object → y.object ≡ object → x ≡ y
  -- in a buddy chunk it has a power of two of bytes and begins at a multiple of its size
  pub buddy : (span : Span) (h : HeldObject) → IsLive s span → map.get s.held span.object ≡ Some h
      → h.kind ≡ BuddyChunk → IsPowerOfTwo span.size × IsMultipleOf span.size span.offset
  -- different live spans share no byte
  pub apart : (x y : Span) → IsLive s x → IsLive s y → x ≢ y → AreSpansApart x y
  -- each held object of one block and each held buddy chunk has a live span
  pub used : (object : ℕ) → IfSome (map.get s.held object) (λ h. may_be_unused h.kind ≡ false → HasLiveSpan s object)
  -- the chunks of a memory type's free list have numbers of their own, from 1 to the latest
  pub numbers : (t number a b : ℕ) → IsListChunk s t number a → IsListChunk s t number b → a ≡ b
  pub numbered : (t number object : ℕ) → IsListChunk s t number object → (0 < number) × (number ≤ latest_number s t)
  -- chunks are of the kind that was chosen
  pub chosen : (object : ℕ) (h : HeldObject) → map.get s.held object ≡ Some h → is_chosen s.sharing h.kind ≡ true
  -- of a memory type's fit chunks at most one has no live span
  pub one_unused : (t a b : ℕ) → IsFitChunk s t a → IsFitChunk s t b → IsUnused s a → IsUnused s b → a ≡ b
  -- each has a size that fit chunks can have, and so has a memory type's next one
  pub fit_sizes : (t object : ℕ) (is : IsFitChunk s t object) → IsFitSize s t is.chunk.counted
  pub next_fit : (t : ℕ) → t < length s.properties.memory_types → IsFitSize s t (next_fit_chunk s t)
  -- and a live span in it starts and ends at grains
  pub fit : (t : ℕ) (span : Span) → IsFitChunk s t span.object → IsLive s span → IsMultipleOf (grain_of s t) span.offset
      × IsMultipleOf (grain_of s t) span.size
  -- apart from imports, no more of a heap is held than it has
  pub within : IsWithinHeaps s
  -- and no limit exceeds its heap's size
  pub limits : AreLimits s
