-- The invariants of a store's fields: its chunks and tiles, its wholly free chunk, and its lists of free tiles.
use Rattle.std.specs.Prelude.{◌≡◌, ◌≢◌, ◌⊎◌, ℕ, ◌-◌, ◌<◌, ◌^◌, true, false, cond, List, [], ◌∷◌, Option, Some, None, filter_map}
use Rattle.std.specs.FinMap as map
use Rattle.std.specs.FinSet as set
use Rattle.slab.specs.Slab.{Slab, entries, get, slab_len}
use Rattle.gpu_alloc_types.specs.declared.types.FreeRange.{FreeRange}
use Rattle.gpu_alloc_base.specs.Accounts.{HeldChunks}
use Rattle.gpu_alloc_base.specs.Chunks.{Chunk, object_in}
use Rattle.gpu_alloc_base.specs.SlabViews.{by_key, HasOneKeyEach}
use Rattle.gpu_alloc_base.specs.Slots.{slot_cmp}
use Rattle.gpu_alloc_base.specs.declared.buddy_block.Leaf.{Leaf}
use Rattle.gpu_alloc_base.specs.declared.free_list_block.Slot.{Slot}
use Rattle.gpu_alloc_runs.specs.Filed.{AreFreeFiled, AreWholeLast}
use Rattle.gpu_alloc_runs.specs.Fits.{FitStore}
use Rattle.gpu_alloc_runs.specs.Links.{AreNodesKept}
use Rattle.gpu_alloc_runs.specs.Choice.{IsChosenRun}
use Rattle.gpu_alloc_runs.specs.Space.{FitSpace, IsFreeIn, IsWhollyFree, chunk_bytes}
use Rattle.gpu_alloc_runs.specs.Tiles.{tile_in, tile_region}
use Rattle.gpu_alloc_runs.specs.declared.classes.Classes.{Classes}
use Rattle.gpu_alloc_runs.specs.declared.fits.Chunk.{Chunk as Row}
use Rattle.gpu_alloc_runs.specs.declared.tile.Node.{Node}
use Rattle.gpu_alloc_runs.specs.declared.tile.Place.{Place}
use Rattle.gpu_alloc_runs.specs.declared.tile.Tile.{Tile}

-- a row's chunk
abbrev pub chunk_of_row : {M : Type 0} → (M → ℕ) → Row M → Chunk
chunk_of_row object row = record { object = object row.memory; size = row.size }

-- the chunks of a slab by key
abbrev pub chunks_of_rows : {M : Type 0} → (M → ℕ) → Slab (Row M) → HeldChunks
chunks_of_rows object rows = by_key (chunk_of_row object) rows

abbrev pub row_size : {M : Type 0} → Option (Row M) → ℕ
row_size None = 0
row_size (Some row) = row.size

-- how many bytes the chunk under a key has, 0 where there is no chunk
abbrev pub chunk_size_in : {M : Type 0} → Slab (Row M) → ℕ → ℕ
chunk_size_in rows key = row_size (get rows key)

-- the block that a live tile is
abbrev pub slot_of : HeldChunks → Tile → Slot
slot_of chunks t =
    record { object = object_in (map.get chunks t.chunk); chunk = t.chunk; offset = t.start; size = t.end - t.start }

abbrev pub live_slot : HeldChunks → Tile → Option Slot
live_slot chunks t = cond t.free None (Some (slot_of chunks t))

-- a live block as a row of a list, in the form of a buddy allocator's
abbrev pub leaf_of_slot : Slot → Leaf
leaf_of_slot b = record { object = b.object; chunk = b.chunk; offset = b.offset; size = b.size; index = 0 }

abbrev pub live_row : HeldChunks → Tile → Option Leaf
live_row chunks t = cond t.free None (Some (leaf_of_slot (slot_of chunks t)))

-- what the tiles of a slab give, where they give anything
abbrev pub made_of : {Y : Type 0} → (Tile → Option Y) → List (ℕ × Node) → List Y
made_of h rest = filter_map (λ e. h e.1.tile) rest

-- the live blocks
unfoldable pub live_slots_in : HeldChunks → Slab Node → set.FinSet slot_cmp
live_slots_in chunks nodes = set.from_list (made_of (live_slot chunks) (entries nodes))

-- the range that a free tile is
abbrev pub free_range : HeldChunks → Tile → Option FreeRange
free_range chunks t =
    cond t.free (Some (record { object = object_in (map.get chunks t.chunk); start = t.start; end = t.end })) None

-- an element, or nothing, as a list
abbrev pub listed : {Y : Type 0} → Option Y → List Y
listed None = []
listed (Some y) = y ∷ []

abbrev pub fit_space_in : HeldChunks → Slab Node → FitSpace
fit_space_in chunks nodes = record { chunks = chunks; live = live_slots_in chunks nodes }

abbrev pub fit_store_in : HeldChunks → ℕ → Slab Node → FitStore
fit_store_in chunks chunk_room nodes =
    record { space = fit_space_in chunks nodes; chunk_room = chunk_room; tile_room = nodes.capacity - slab_len nodes }

-- the tile is live, and has these bytes of its chunk
pub record IsLiveTile (offset size : ℕ) (t : Tile) : Type 0 where
  pub live : t.free ≡ false
  pub starts : t.start ≡ offset
  pub of_size : t.end - t.start ≡ size

-- it is a live block of this span of an object
pub record IsBlockTile (chunks : HeldChunks) (object offset size : ℕ) (t : Tile) : Type 0 where
  pub tile : IsLiveTile offset size t
  pub of_object : object_in (map.get chunks t.chunk) ≡ object

-- such a tile stands there, in a chunk of that size
pub record IsBlockPlace {M : Type 0} (name : M → ℕ) (rows : Slab (Row M)) (nodes : Slab Node) (object offset size : ℕ) (p : Place) : Type 0 where
  pub at : get nodes p.key ≡ Some p.node
  pub block : IsBlockTile (chunks_of_rows name rows) object offset size p.node.tile
  pub whole : chunk_size_in rows p.node.tile.chunk ≡ p.whole

-- a free tile with its key, whose run is chosen for a block of this size at a multiple of the alignment
pub record IsChosenTile (s : FitSpace) (T : ℕ → Option Tile) (size alignment : ℕ) (found : ℕ × Tile) : Type 0 where
  pub at : T found.0 ≡ Some found.1
  pub free : found.1.free ≡ true
  pub chosen : IsChosenRun (IsFreeIn s) (chunk_bytes s) size alignment (tile_region found.1)

-- such a tile stands under the key
abbrev pub IsAtKey : HeldChunks → (ℕ → Option Tile) → ℕ → ℕ → ℕ → ℕ → Type 0
IsAtKey chunks T object offset size k = (a : Tile) × ((T k ≡ Some a) × IsBlockTile chunks object offset size a)

-- the tile under the key is free and all of this chunk
pub record IsWholeTile (size : ℕ → ℕ) (T : ℕ → Option Tile) (x chunk : ℕ) : Type 0 where
  pub tile : Tile
  pub at : T x ≡ Some tile
  pub free : tile.free ≡ true
  pub start : tile.start ≡ 0
  pub end : tile.end ≡ size chunk
  pub chunk_is : tile.chunk ≡ chunk

-- the same for some chunk, and no other one is wholly free
pub record IsTheWhole (s : FitSpace) (size : ℕ → ℕ) (T : ℕ → Option Tile) (x : ℕ) : Type 0 where
  pub chunk : ℕ
  pub whole : IsWholeTile size T x chunk
  pub only : (key : ℕ) → IsWhollyFree s key → key ≡ chunk

-- the wholly free chunk, by the key of its tile, if there is one
abbrev pub IsSpareTile : FitSpace → (ℕ → ℕ) → (ℕ → Option Tile) → Option ℕ → Type 0
IsSpareTile s size T None = (key : ℕ) → IsWhollyFree s key → ⊥
IsSpareTile s size T (Some x) = IsTheWhole s size T x

-- the key, unless it is this one
abbrev pub IsWithout : Option ℕ → ℕ → Option ℕ → Type 0
IsWithout None key new = new ≡ None
IsWithout (Some z) key new = ((z ≡ key) × (new ≡ None)) ⊎ ((z ≢ key) × (new ≡ Some z))

-- what holds of chunks and tiles between calls
pub record IsStoredInTiles {M : Type 0} (object : M → ℕ) (rows : Slab (Row M)) (nodes : Slab Node) (spare : Option ℕ)
    : Type 0 where
  pub kept : AreNodesKept (chunk_size_in rows) nodes
  pub sizes : (k : ℕ) (row : Row M) → get rows k ≡ Some row → (0 < row.size) × (row.size < 2 ^ 64)
  pub one_object : HasOneKeyEach (λ row. object row.memory) rows
  pub spare_is : IsSpareTile (fit_space_in (chunks_of_rows object rows) nodes) (chunk_size_in rows) (tile_in nodes) spare

-- and of the lists of free tiles too
pub record IsStore {M : Type 0} (object : M → ℕ) (rows : Slab (Row M)) (nodes : Slab Node) (classes : Classes)
    (spare : Option ℕ) : Type 0 where
  pub stored : IsStoredInTiles object rows nodes spare
  pub filed : AreFreeFiled nodes classes
  pub whole_last : AreWholeLast (chunk_size_in rows) nodes
