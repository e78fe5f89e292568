-- By what a store of shared chunks decides. T are its states, A requests in its own terms, B its blocks.
use Rattle.std.specs.Prelude.{◌≡◌, ◌≢◌, IsTrue, ℕ, Bool, Option, Some, None}
use Rattle.std.specs.FinMap as map
use Rattle.std.specs.FinSet as set
use Rattle.std.specs.declared.cmp.Ordering.{Ordering}
use Rattle.gpu_alloc_base.specs.Accounts.{HeldChunks}
use Rattle.gpu_alloc_base.specs.Chunks.{Chunk}
use Rattle.gpu_alloc_base.specs.InHand.{Bytes}
use Rattle.gpu_alloc_base.specs.declared.heap.Heap.{Heap}

-- a memory type, and its property bits
pub record ServedType : Type 0 where
  pub memory_type : ℕ
  pub props : ℕ

pub record Rule (T A B : Type 0) : Type 1 where
  -- What a state shows: its memory type, its chunks by key, its live blocks; and the state with other ones of both.
  pub served : T → ServedType
  pub chunks : T → HeldChunks
  pub order : B → B → Ordering
  pub live : T → set.FinSet order
  pub with_space : T → HeldChunks → set.FinSet order → T
  -- What a block shows: its chunk's key, and its bytes.
  pub key : B → ℕ
  pub bytes : B → Bytes
  -- what holds between calls
  pub IsSound : T → Type 0
  -- Requests, by the heap's ledger. A size and an alignment mask that may be asked for; the request in the store's own
  -- terms; a chunk for it would be below 2^64 bytes; what the store may rest on; and a new chunk has room for it.
  pub Serves : T → Heap → ℕ → ℕ → Type 0
  pub asked : T → ℕ → ℕ → A
  pub Fits : A → Type 0
  pub IsAsk : T → A → Type 0
  pub Holds : T → Heap → A → Type 0
  -- Places. There is room in a held chunk, and the block is in such a place.
  pub HasPlace : T → A → Type 0
  pub IsTaken : T → A → B → Type 0
  -- New chunks. One more may be told apart; its size, by the heap's ledger; the block begins one of this size; and the
  -- state with both.
  pub HasNumber : T → Type 0
  pub chunk_size : T → Heap → A → ℕ
  pub Begins : T → A → ℕ → B → Type 0
  pub in_new_chunk : T → A → ℕ → B → T
  -- Returns. The block's chunk is released with it; the chunk under this key is released next, where the chunk of the
  -- last run is kept or is not; and what is known then, where one was found or none was.
  pub ReleasedWith : T → B → Type 0
  pub IsNext : T → Bool → ℕ → Type 0
  pub Left : T → Bool → Bool → Type 0
  -- Steps, before and after: the looks of a search for a place; looks and splits where a place was taken, none was found
  -- or host memory was missing; the splits of a block that begins a chunk of this size; and the steps of a return.
  pub Looks : T → A → ℕ → ℕ → Type 0
  pub Tries : T → A → Option (Option B) → ℕ → ℕ → ℕ → ℕ → Type 0
  pub Begun : T → A → ℕ → ℕ → ℕ → Type 0
  pub Joins : T → B → ℕ → ℕ → Type 0

-- no held chunk is of this object
abbrev pub IsUnheldIn : HeldChunks → ℕ → Type 0
IsUnheldIn chunks object = (key : ℕ) (chunk : Chunk) → map.get chunks key ≡ Some chunk → chunk.object ≢ object

module _ {T A B : Type 0} (r : Rule T A B) where
  abbrev pub IsLive : T → B → Type 0
  IsLive t b = IsTrue (set.contains (r.live t) b)

  -- What a shell of stores rests on, whatever the store.
  pub record IsLawful : Type 0 where
    -- a state with other chunks and blocks has these, and serves the same memory type
    pub its_chunks : (t : T) (chunks : HeldChunks) (live : set.FinSet r.order) → r.chunks (r.with_space t chunks live) ≡ chunks
    pub its_live : (t : T) (chunks : HeldChunks) (live : set.FinSet r.order) → r.live (r.with_space t chunks live) ≡ live
    pub its_type : (t : T) (chunks : HeldChunks) (live : set.FinSet r.order) → r.served (r.with_space t chunks live) ≡ r.served t
    -- a block in a place is in a held chunk
    pub in_held : (t : T) (ask : A) (b : B) → r.IsTaken t ask b → (chunk : Chunk) × (map.get (r.chunks t) (r.key b) ≡ Some chunk)
    -- one that begins a chunk has a new key, adds that chunk, and is live
    pub new_key : (t : T) → r.IsSound t → (ask : A) (whole : ℕ) (b : B) → r.Begins t ask whole b → map.get (r.chunks t) (r.key b) ≡ None
    pub one_chunk : (t : T) (ask : A) (whole : ℕ) (b : B) → r.Begins t ask whole b → r.chunks (r.in_new_chunk t ask whole b)
        ≡ map.insert (r.chunks t) (r.key b) (record { object = (r.bytes b).object; size = whole })
    pub one_block : (t : T) (ask : A) (whole : ℕ) (b : B) → r.Begins t ask whole b → r.live (r.in_new_chunk t ask whole b)
        ≡ set.insert (r.live t) b
    pub same_type : (t : T) (ask : A) (whole : ℕ) (b : B) → r.served (r.in_new_chunk t ask whole b) ≡ r.served t
    -- chunks have objects of their own, and a live block is of its chunk's
    pub own_object : (t : T) → r.IsSound t → (i k : ℕ) (c d : Chunk) → map.get (r.chunks t) i ≡ Some c → map.get (r.chunks t) k ≡ Some d
        → c.object ≡ d.object → i ≡ k
    pub of_chunk : (t : T) (b : B) → r.IsSound t → IsLive t b → (chunk : Chunk)
        × ((map.get (r.chunks t) (r.key b) ≡ Some chunk) × ((r.bytes b).object ≡ chunk.object))
