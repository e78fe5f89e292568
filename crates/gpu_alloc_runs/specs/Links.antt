-- The keys that each tile has for its neighbours, and what changes when nodes are written.
use Rattle.std.specs.Prelude.{◌≡◌, ◌≢◌, ℕ, Bool, true, false, Option, Some, None}
use Rattle.slab.specs.Slab.{Slab, ContainsKey, get}
use Rattle.gpu_alloc_runs.specs.Tiles.{AreNeighbours, IsCalm, IsCalmBut, IsTiled, tile_in}
use Rattle.gpu_alloc_runs.specs.declared.tile.Node.{Node}
use Rattle.gpu_alloc_runs.specs.declared.tile.Tile.{Tile}

abbrev pub before_of : Option Node → ℕ
before_of None = 0
before_of (Some n) = n.before

abbrev pub after_of : Option Node → ℕ
after_of None = 0
after_of (Some n) = n.after

-- the key that a tile has for the one that ends where it starts, and for the one that starts where it ends
abbrev pub before_in : Slab Node → ℕ → ℕ
before_in nodes key = before_of (get nodes key)

abbrev pub after_in : Slab Node → ℕ → ℕ
after_in nodes key = after_of (get nodes key)

-- neighbours have each other's keys
abbrev pub AreLinked : (ℕ → Option Tile) → (ℕ → ℕ) → (ℕ → ℕ) → Type 0
AreLinked T before after =
    (j k : ℕ) (a b : Tile) → T j ≡ Some a → T k ≡ Some b → AreNeighbours a b → (after j ≡ k) × (before k ≡ j)

-- what holds of nodes between calls
pub record AreNodesKept (size : ℕ → ℕ) (nodes : Slab Node) : Type 0 where
  pub tiled : IsTiled size (tile_in nodes)
  pub calm : IsCalm (tile_in nodes)
  pub linked : AreLinked (tile_in nodes) (before_in nodes) (after_in nodes)

-- what holds where the tile under one key is free, and may touch free ones
pub record AreNodesKeptBut (size : ℕ → ℕ) (x : ℕ) (nodes : Slab Node) : Type 0 where
  pub tiled : IsTiled size (tile_in nodes)
  pub calm : IsCalmBut x (tile_in nodes)
  pub linked : AreLinked (tile_in nodes) (before_in nodes) (after_in nodes)
  pub tile : Tile
  pub at : tile_in nodes x ≡ Some tile
  pub free : tile.free ≡ true

-- tiles and neighbours are unchanged
pub record KeepsNodes (old new : Slab Node) : Type 0 where
  pub tiles : (k : ℕ) → tile_in new k ≡ tile_in old k
  pub before : (k : ℕ) → before_in new k ≡ before_in old k
  pub after : (k : ℕ) → after_in new k ≡ after_in old k

-- only the neighbour before one tile changes, if the write is made
pub record SetsBefore (old new : Slab Node) (there : Bool) (key value : ℕ) : Type 0 where
  pub tiles : (k : ℕ) → tile_in new k ≡ tile_in old k
  pub after : (k : ℕ) → after_in new k ≡ after_in old k
  pub others : (k : ℕ) → k ≢ key → before_in new k ≡ before_in old k
  pub written : there ≡ true → ContainsKey old key → before_in new key ≡ value
  pub left : there ≡ false → before_in new key ≡ before_in old key

-- the same node with a tile that is free or live
abbrev pub with_free : Bool → Node → Node
with_free free n = record n { tile = record n.tile { free = free } }

-- the same node with a tile that ends elsewhere, where another one starts
abbrev pub with_end : ℕ → ℕ → Node → Node
with_end end after n = record n { tile = record n.tile { end = end }; after = after }
