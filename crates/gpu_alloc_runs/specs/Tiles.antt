-- The bytes of held chunks as tiles, each a live block or a free run, by the keys under which they stand.
use Rattle.std.specs.Prelude.{◌≡◌, ◌≢◌, ℕ, ◌<◌, ◌≤◌, true, false, Option, Some, option_map}
use Rattle.gpu_alloc_base.specs.FreeRuns.{HasRoom}
use Rattle.gpu_alloc_base.specs.declared.region.FreeListRegion.{FreeListRegion}
use Rattle.slab.specs.Slab.{Slab, get}
use Rattle.gpu_alloc_runs.specs.declared.tile.Node.{Node}
use Rattle.gpu_alloc_runs.specs.declared.tile.Tile.{Tile}

-- the tile under a key
abbrev pub tile_in : Slab Node → ℕ → Option Tile
tile_in nodes key = option_map (λ (n : Node). n.tile) (get nodes key)

-- its bytes
abbrev pub tile_region : Tile → FreeListRegion
tile_region t = record { chunk = t.chunk; start = t.start; end = t.end }

-- the byte lies in the tile
abbrev pub Covers : Tile → ℕ → ℕ → Type 0
Covers t chunk at = (t.chunk ≡ chunk) × ((t.start ≤ at) × (at < t.end))

-- the first ends where the second starts
pub record AreNeighbours (a b : Tile) : Type 0 where
  pub chunk : a.chunk ≡ b.chunk
  pub meet : a.end ≡ b.start

-- and both are free
pub record AreFreeNeighbours (a b : Tile) : Type 0 where
  pub chunk : a.chunk ≡ b.chunk
  pub meet : a.end ≡ b.start
  pub left : a.free ≡ true
  pub right : b.free ≡ true

-- the tiles of chunks of these sizes: not empty, apart, and together all of the bytes
pub record IsTiled (size : ℕ → ℕ) (T : ℕ → Option Tile) : Type 0 where
  pub nonempty : (k : ℕ) (a : Tile) → T k ≡ Some a → a.start < a.end
  pub inside : (k : ℕ) (a : Tile) → T k ≡ Some a → a.end ≤ size a.chunk
  pub apart : (j k : ℕ) (a b : Tile) → T j ≡ Some a → T k ≡ Some b → a.chunk ≡ b.chunk → a.start < b.end
      → b.start < a.end → j ≡ k
  pub covers : (chunk at : ℕ) → at < size chunk → (k : ℕ) × (a : Tile) × ((T k ≡ Some a) × Covers a chunk at)

-- no two free tiles touch
abbrev pub IsCalm : (ℕ → Option Tile) → Type 0
IsCalm T = (j k : ℕ) (a b : Tile) → T j ≡ Some a → T k ≡ Some b → AreFreeNeighbours a b → ⊥

-- no two touch, except with the one under this key
abbrev pub IsCalmBut : ℕ → (ℕ → Option Tile) → Type 0
IsCalmBut x T =
    (j k : ℕ) (a b : Tile) → j ≢ x → k ≢ x → T j ≡ Some a → T k ≡ Some b → AreFreeNeighbours a b → ⊥

-- a live tile stands under the key
abbrev pub IsLiveAt : (ℕ → Option Tile) → ℕ → Tile → Type 0
IsLiveAt T k a = (T k ≡ Some a) × (a.free ≡ false)

-- no live tile stands under the key
abbrev pub HasNoLiveTile : (ℕ → Option Tile) → ℕ → Type 0
HasNoLiveTile T k = (a : Tile) → IsLiveAt T k a → ⊥

-- there is a free tile of these bytes
abbrev pub HasRun : (ℕ → Option Tile) → FreeListRegion → Type 0
HasRun T r = (k : ℕ) × (a : Tile) × ((T k ≡ Some a) × ((a.free ≡ true) × (tile_region a ≡ r)))

-- no free tile ends where the one of this key starts
abbrev pub IsFirst : ℕ → (ℕ → Option Tile) → Type 0
IsFirst x T = (k : ℕ) (c a : Tile) → T k ≡ Some c → T x ≡ Some a → AreFreeNeighbours c a → ⊥

-- no free tile starts where the one of this key ends, free or not
abbrev pub IsFreeRight : ℕ → (ℕ → Option Tile) → Type 0
IsFreeRight x T =
    (k : ℕ) (c a : Tile) → T k ≡ Some c → c.free ≡ true → T x ≡ Some a → AreNeighbours a c → ⊥

-- What calls change.

-- the tile under one key becomes another, or is removed
pub record Sets (T T' : ℕ → Option Tile) (x : ℕ) (o : Option Tile) : Type 0 where
  pub changed : T' x ≡ o
  pub others : (k : ℕ) → k ≢ x → T' k ≡ T k

-- the tiles of other chunks are unchanged
abbrev pub KeepsElsewhere : ℕ → (ℕ → Option Tile) → (ℕ → Option Tile) → Type 0
KeepsElsewhere chunk T T' = (k : ℕ) (a : Tile) → T k ≡ Some a → a.chunk ≢ chunk → T' k ≡ Some a

-- the live tiles are unchanged, and no other one is live
pub record KeepsLive (T T' : ℕ → Option Tile) : Type 0 where
  pub stays : (k : ℕ) (a : Tile) → IsLiveAt T k a → IsLiveAt T' k a
  pub was : (k : ℕ) (a : Tile) → IsLiveAt T' k a → IsLiveAt T k a

-- the same for all but the tile under one key
pub record KeepsOthers (T T' : ℕ → Option Tile) (x : ℕ) : Type 0 where
  pub stays : (k : ℕ) (a : Tile) → k ≢ x → IsLiveAt T k a → IsLiveAt T' k a
  pub was : (k : ℕ) (a : Tile) → k ≢ x → IsLiveAt T' k a → IsLiveAt T k a

-- the tile under one key is no longer live, and the others are
pub record PutsTileBack (T T' : ℕ → Option Tile) (x : ℕ) : Type 0 where
  pub stays : (k : ℕ) (a : Tile) → IsLiveAt T k a → k ≢ x → IsLiveAt T' k a
  pub was : (k : ℕ) (a : Tile) → IsLiveAt T' k a → IsLiveAt T k a × (k ≢ x)

-- the tile under the key is free, and of this chunk
pub record IsFreeTileOf (chunk : ℕ) (T : ℕ → Option Tile) (x : ℕ) (a : Tile) : Type 0 where
  pub at : T x ≡ Some a
  pub free : a.free ≡ true
  pub chunk_is : a.chunk ≡ chunk

-- Where there is room.

-- the tile is free and has room for a block of this size at a multiple of the alignment
abbrev pub HasRoomIn : ℕ → ℕ → Tile → Type 0
HasRoomIn size alignment a = (a.free ≡ true) × HasRoom size alignment a.start a.end

-- such a tile stands under the key
abbrev pub HasRoomAt : (ℕ → Option Tile) → ℕ → ℕ → ℕ → Type 0
HasRoomAt T size alignment k = (a : Tile) × ((T k ≡ Some a) × HasRoomIn size alignment a)
