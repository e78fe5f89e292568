-- Which halves are live blocks, by their spans: the object of the chunk, where the block starts in it, and the order of
-- its length.
use Rattle.std.specs.Prelude.{◌≡◌, ℕ, ◌+◌, ◌^◌, ◌<◌, Some}
use Rattle.std.specs.FinMap as finite
use Rattle.slab.specs.Slab.{Slab, ContainsKey, get}
use Rattle.gpu_alloc_base.specs.Accounts.{HeldChunks}
use Rattle.gpu_alloc_base.specs.Chunks.{object_in}
use Rattle.gpu_alloc_base.specs.SlabViews.{by_key}
use Rattle.gpu_alloc_pairs.specs.Entry.{Entry, entry_of, half_start, use_of}
use Rattle.gpu_alloc_pairs.specs.declared.pair.Pair.{Pair}
use Rattle.gpu_alloc_pairs.specs.declared.pair.Side.{Side}
use Rattle.gpu_alloc_pairs.specs.declared.pair.Use.TheVariants.{Taken}
use Rattle.gpu_alloc_pairs.specs.declared.pairs.Chunk.{Chunk}

-- this half is a live block and starts there
pub record IsBlockHalf (order : ℕ) (e : Entry) (start : ℕ) (side : Side) : Type 0 where
  pub taken : use_of e side ≡ Taken
  pub starts : half_start (2 ^ order) e.offset side ≡ start

-- one of the pair's two halves is
abbrev pub HasBlock : ℕ → Entry → ℕ → Type 0
HasBlock order e start = (side : Side) × IsBlockHalf order e start side

-- the chunks of a slab by key
abbrev pub chunks_in : {M : Type 0} → (M → ℕ) → Slab (Chunk M) → HeldChunks
chunks_in object chunks = by_key (λ c. record { object = object c.memory; size = 2 ^ c.order }) chunks

-- a half of the pair is a live block of this span
abbrev pub HasSpan : HeldChunks → ℕ → ℕ → ℕ → Entry → Type 0
HasSpan chunks order object start e = HasBlock order e start × (object_in (finite.get chunks e.chunk) ≡ object)

-- the block of this span stands under the key
abbrev pub BlockStandsUnder : HeldChunks → Slab Pair → ℕ → ℕ → ℕ → ℕ → Type 0
BlockStandsUnder chunks pairs order object start key =
    (p : Pair) × (get pairs key ≡ Some p) × HasSpan chunks order object start (entry_of p)

-- it stands under no key
abbrev pub BlockStandsNowhere : HeldChunks → Slab Pair → ℕ → ℕ → ℕ → Type 0
BlockStandsNowhere chunks pairs order object start = (key : ℕ) → BlockStandsUnder chunks pairs order object start key → ⊥

-- the pair's chunk is held, and its right half starts below 2^64
pub record IsInChunk {C : Type 0} (chunks : Slab C) (order : ℕ) (p : Pair) : Type 0 where
  pub held : ContainsKey chunks p.chunk
  pub bounded : p.offset + 2 ^ order < 2 ^ 64

abbrev pub AreInChunks : {C : Type 0} → Slab C → ℕ → Slab Pair → Type 0
AreInChunks chunks order pairs = (key : ℕ) (p : Pair) → get pairs key ≡ Some p → IsInChunk chunks order p
