-- What a call of an allocator of shared chunks does to the blocks that a caller has in hand, by the sets of its live
-- blocks before and after. Its blocks are B, in the order R, and `bytes` gives the bytes of a block.
use Rattle.std.specs.Prelude.{◌≡◌, ◌≢◌, ℕ, ◌+◌, ◌<◌, ◌^◌, List, [], ◌∷◌, ◌++◌, length, Option, IsTrue}
use Rattle.std.specs.FinMap as map
use Rattle.std.specs.FinSet as set
use Rattle.std.specs.declared.cmp.Ordering.{Ordering}
use Rattle.gpu_alloc_types.specs.Device.{Object}
use Rattle.gpu_alloc_types.specs.Properties.{Properties, props_at}
use Rattle.gpu_alloc_base.specs.Accounts.{Agrees, HeldChunks, IsCounted}
use Rattle.gpu_alloc_base.specs.FreeSpace.{IsIn}
use Rattle.gpu_alloc_base.specs.declared.heap.Heap.{Heap}

-- the bytes of a block: their object, where they start, and how many there are
pub record Bytes : Type 0 where
  pub object : ℕ
  pub offset : ℕ
  pub size : ℕ

-- the two share no byte
abbrev pub AreApart : Bytes → Bytes → Type 0
AreApart x y = x.object ≡ y.object → (at : ℕ) → IsIn x.offset x.size at → IsIn y.offset y.size at → ⊥

-- two blocks, which share no byte
pub record AreTwo {B : Type 0} (bytes : B → Bytes) (b c : B) : Type 0 where
  pub apart : AreApart (bytes b) (bytes c)
  pub differ : b ≢ c

-- the block is different from each of these
abbrev pub IsBeside : {B : Type 0} → (B → Bytes) → B → List B → Type 0
IsBeside bytes b [] = Unit {0}
IsBeside bytes b (c ∷ cs) = AreTwo bytes b c × IsBeside bytes b cs

-- the block is live here, and so may be returned
pub record IsInHand {B : Type 0} {R : B → B → Ordering} (live : set.FinSet R) (b : B) : Type 0 where
  pub is_live : IsTrue (set.contains live b)

-- all of these are in hand, and no two share a byte
abbrev pub AreInHand : {B : Type 0} {R : B → B → Ordering} → (B → Bytes) → set.FinSet R → List B → Type 0
AreInHand bytes live [] = Unit {0}
AreInHand bytes live (b ∷ bs) = IsInHand live b × IsBeside bytes b bs × AreInHand bytes live bs

-- What a call that takes no block keeps: each block that was in hand.
pub record Leaves {B : Type 0} {R : B → B → Ordering} (bytes : B → Bytes) (old new : set.FinSet R) : Type 0 where
  pub block : (b : B) → IsInHand old b → IsInHand new b
  pub all : (bs : List B) → AreInHand bytes old bs → AreInHand bytes new bs

-- What a grant adds: the block, to the live ones and to those in hand, which are different from it.
pub record Adds {B : Type 0} {R : B → B → Ordering} (bytes : B → Bytes) (old new : set.FinSet R) (b : B) : Type 0 where
  pub live : new ≡ set.insert old b
  pub count : set.len new ≡ set.len old + 1
  pub own : IsInHand new b
  pub before : (c : B) → IsInHand old c → AreTwo bytes c b
  pub after : (c : B) → IsInHand old c → AreTwo bytes b c
  pub all : (bs : List B) → AreInHand bytes old bs → AreInHand bytes new (bs ++ b ∷ [])

-- What a return removes: the block, and no other that is in hand.
pub record Removes {B : Type 0} {R : B → B → Ordering} (bytes : B → Bytes) (old : set.FinSet R) (b : B)
    (new : set.FinSet R) : Type 0 where
  pub live : new ≡ set.remove old b
  pub count : set.len new + 1 ≡ set.len old
  pub block : (c : B) → IsInHand old c → c ≢ b → IsInHand new c
  pub all : (cs : List B) → AreInHand bytes old (b ∷ cs) → AreInHand bytes new cs

-- the device has the memory type, with these property bits
pub record Offers (p : Properties) (memory_type props : ℕ) : Type 0 where
  pub known : memory_type < length p.memory_types
  pub same : props_at p memory_type ≡ props

-- What follows for an allocator that holds nothing: it agrees with every device that offers its memory type, and its
-- chunks are counted by every ledger.
pub record HoldsNothing {B : Type 0} {R : B → B → Ordering} (memory_type props : ℕ) (blocks : set.FinSet R)
    (chunks : HeldChunks) : Type 0 where
  pub live : set.len blocks ≡ 0
  pub held : map.len chunks ≡ 0
  pub agrees : (p : Properties) → Offers p memory_type props → (objects : ℕ → Option Object)
      → Agrees memory_type props chunks p objects
  pub counted : (heap : Heap) (remaining : ℕ) → remaining < 2 ^ 32 → IsCounted chunks heap remaining

-- What a call leaves that releases each chunk without a live block: no chunk where no block is live.
pub record LeavesNoRest {B : Type 0} {R : B → B → Ordering} (live : set.FinSet R) (chunks : HeldChunks) : Type 0 where
  pub held : set.len live ≡ 0 → map.len chunks ≡ 0
