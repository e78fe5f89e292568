-- Free tiles in the lists of their classes.
use Rattle.std.specs.Prelude.{◌≡◌, ◌≢◌, ℕ, ◌-◌, true, cond, Option, Some, None}
use Rattle.slab.specs.Slab.{Slab, ContainsKey, get}
use Rattle.gpu_alloc_runs.specs.Classes.{AreFiled, AreMarked, class_of_bytes, filed_but, first_in}
use Rattle.gpu_alloc_runs.specs.Tiles.{tile_in}
use Rattle.gpu_alloc_runs.specs.declared.classes.Classes.{Classes}
use Rattle.gpu_alloc_runs.specs.declared.tile.Node.{Node}
use Rattle.gpu_alloc_runs.specs.declared.tile.TheConstants.{NONE}
use Rattle.gpu_alloc_runs.specs.declared.tile.Tile.{Tile}

abbrev pub up_of : Option Node → ℕ
up_of None = 0
up_of (Some n) = n.up

abbrev pub down_of : Option Node → ℕ
down_of None = 0
down_of (Some n) = n.down

-- the keys above and below a tile in its list
abbrev pub up_in : Slab Node → ℕ → ℕ
up_in nodes key = up_of (get nodes key)

abbrev pub down_in : Slab Node → ℕ → ℕ
down_in nodes key = down_of (get nodes key)

-- the class of a free tile, and none of a live one
abbrev pub class_at : Option Tile → Option ℕ
class_at None = None
class_at (Some t) = cond t.free (Some (class_of_bytes (t.end - t.start))) None

-- the class in which the tile under a key is to be filed
abbrev pub filed_in : Slab Node → ℕ → Option ℕ
filed_in nodes key = class_at (tile_in nodes key)

-- the tiles are in lists as this filing says
pub record IsIndexed (filed : ℕ → Option ℕ) (nodes : Slab Node) (classes : Classes) : Type 0 where
  pub vacant : ContainsKey nodes NONE → ⊥
  pub there : (key class : ℕ) → filed key ≡ Some class → ContainsKey nodes key
  pub lists : AreFiled filed (first_in classes) (up_in nodes) (down_in nodes)
  pub marked : AreMarked classes

-- exactly the free tiles are in lists, each in that of its class
abbrev pub AreFreeFiled : Slab Node → Classes → Type 0
AreFreeFiled nodes classes = IsIndexed (filed_in nodes) nodes classes

-- the same but for the tile under one key
abbrev pub AreFreeFiledBut : Slab Node → Classes → ℕ → Option ℕ → Type 0
AreFreeFiledBut nodes classes key class = IsIndexed (filed_but (filed_in nodes) key class) nodes classes

-- a key that was filed in one class, or in none, is then filed in another
abbrev pub Refiles : Slab Node → Classes → Slab Node → Classes → ℕ → Option ℕ → Option ℕ → Type 0
Refiles nodes classes nodes' classes' key was class =
    (filed : ℕ → Option ℕ) → IsIndexed filed nodes classes → filed key ≡ was
    → IsIndexed (filed_but filed key class) nodes' classes'

-- then each other tile that had none below it still has none
abbrev pub KeepsLasts : Slab Node → Classes → Slab Node → ℕ → Option ℕ → Type 0
KeepsLasts nodes classes nodes' key was =
    (filed : ℕ → Option ℕ) → IsIndexed filed nodes classes → filed key ≡ was
    → (k : ℕ) → k ≢ key → down_in nodes k ≡ NONE → down_in nodes' k ≡ NONE

-- the tiles of other chunks that had none below them still have none
abbrev pub KeepsEnds : ℕ → Slab Node → Slab Node → Type 0
KeepsEnds chunk nodes nodes' =
    (k : ℕ) (a : Tile) → tile_in nodes k ≡ Some a → a.chunk ≢ chunk → down_in nodes k ≡ NONE → down_in nodes' k ≡ NONE

-- one tile gets another above it, if there is such a tile
pub record SetsUp (old new : Slab Node) (key value : ℕ) : Type 0 where
  pub written : ContainsKey old key → up_in new key ≡ value
  pub others : (k : ℕ) → k ≢ key → up_in new k ≡ up_in old k
  pub down : (k : ℕ) → down_in new k ≡ down_in old k

-- one tile gets another below it
pub record SetsDown (old new : Slab Node) (key value : ℕ) : Type 0 where
  pub written : ContainsKey old key → down_in new key ≡ value
  pub others : (k : ℕ) → k ≢ key → down_in new k ≡ down_in old k
  pub up : (k : ℕ) → up_in new k ≡ up_in old k

-- one tile gets others above and below it
pub record SetsPlace (old new : Slab Node) (key up down : ℕ) : Type 0 where
  pub up_written : ContainsKey old key → up_in new key ≡ up
  pub down_written : ContainsKey old key → down_in new key ≡ down
  pub up_others : (k : ℕ) → k ≢ key → up_in new k ≡ up_in old k
  pub down_others : (k : ℕ) → k ≢ key → down_in new k ≡ down_in old k

-- the same keys have tiles, which have the same ones above and below them
pub record KeepsLists (old new : Slab Node) : Type 0 where
  pub there : (k : ℕ) → ContainsKey old k → ContainsKey new k
  pub was : (k : ℕ) → ContainsKey new k → ContainsKey old k
  pub up : (k : ℕ) → up_in new k ≡ up_in old k
  pub down : (k : ℕ) → down_in new k ≡ down_in old k

-- a wholly free chunk is the last of its class
abbrev pub AreWholeLast : (ℕ → ℕ) → Slab Node → Type 0
AreWholeLast size nodes =
    (key : ℕ) (a : Tile) → tile_in nodes key ≡ Some a → a.free ≡ true → a.start ≡ 0 → a.end ≡ size a.chunk
    → down_in nodes key ≡ NONE
