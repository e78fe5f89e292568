-- How many steps a buddy allocator's calls take: lengths looked at, pieces split, halves released. And how many pieces
-- are free.
use Rattle.std.specs.Prelude.{◌≡◌, ◌⊎◌, ℕ, ◌+◌, ◌-◌, ◌*◌, ◌^◌, ◌<◌, ◌≤◌, ◌==◌, Some, None, List, count_by}
use Rattle.std.specs.FinMap as map
use Rattle.std.specs.FinSet as set
use Rattle.gpu_alloc_types.specs.declared.types.FreeRange.{FreeRange}
use Rattle.gpu_alloc_base.specs.Accounts.{Account}
use Rattle.gpu_alloc_base.specs.Chunks.{Chunk}
use Rattle.gpu_alloc_base.specs.FreeSpace.{IsFreePiece}
use Rattle.gpu_alloc_base.specs.declared.buddy_block.Leaf.{Leaf}
use Rattle.gpu_alloc_buddy.specs.BuddyState.{Buddy, Fits, IsFreeInBuddy, chunk_size, space_of}
use Rattle.gpu_alloc_pairs.specs.Store.{CountsSearch}

-- at most 62 pieces are split
abbrev pub CountsSplits : ℕ → ℕ → Type 0
CountsSplits old new = (old ≤ new) × (new ≤ old + 62)

-- where the block is the front of a free piece of 2^k times its size, that took k + 1 looks and k splits
abbrev pub CountsSteps : Buddy → ℕ → ℕ → ℕ → ℕ → Leaf → Type 0
CountsSteps b looks now splits after leaf =
    (k : ℕ) → IsFreePiece (IsFreeInBuddy b) leaf.chunk leaf.offset (leaf.size * 2 ^ k)
    → (now ≡ looks + k + 1) × (after ≡ splits + k)

-- where the block begins a new chunk of 2^k times its size, no place was found, and k - 1 pieces were split: a chunk
-- comes as its two halves
abbrev pub CountsBeginning : Buddy → ℕ → ℕ → ℕ → ℕ → Leaf → Type 0
CountsBeginning b looks now splits after leaf =
    map.get b.chunks leaf.chunk ≡ None → (k : ℕ) → chunk_size b leaf.size ≡ leaf.size * 2 ^ k
    → CountsSearch (space_of b) leaf.size looks now × (after + 1 ≡ splits + k)

-- a place is looked for first where a chunk for the block is below 2^64 bytes and may not be asked for. Then no more
-- objects may be held, or the heap's limit leaves too few bytes
abbrev pub LooksFirst : Account Buddy → ℕ → Type 0
LooksFirst a size = Fits size × ((a.remaining ≡ 0) ⊎ (a.heap.limit < a.heap.used + chunk_size a.allocator size))

-- the looks of a test for a refusal: those for a place, and none where no place is looked for
abbrev pub CountsRefusing : Account Buddy → ℕ → ℕ → ℕ → Type 0
CountsRefusing a size looks now =
    (LooksFirst a size × CountsSearch (space_of a.allocator) size looks now)
    ⊎ ((LooksFirst a size → ⊥) × (now ≡ looks))

-- in a chunk of 2^k times the block's size at most k halves are released
abbrev pub AreFewReleases : Buddy → Leaf → ℕ → ℕ → Type 0
AreFewReleases b leaf old new =
    (chunk : Chunk) → map.get b.chunks leaf.chunk ≡ Some chunk → leaf.size * 2 ^ (new - old) ≤ chunk.size

-- no length has more ranges than live blocks
abbrev pub AreFewRanges : Buddy → List FreeRange → Type 0
AreFewRanges b ranges = (order : ℕ) → count_by (λ r. r.end == r.start + 2 ^ order) ranges ≤ set.len b.live
