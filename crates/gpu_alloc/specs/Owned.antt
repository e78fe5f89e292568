-- What a call does to the blocks that a caller has in hand.
use Rattle.std.specs.Prelude.{◌≡◌, ◌≢◌, ◌⊎◌, ℕ, ◌+◌, ◌≤◌, List, [], ◌∷◌, ◌++◌, Option, None}
use Rattle.std.specs.FinMap as map
use Rattle.std.specs.FinSet as set
use Rattle.gpu_alloc_types.specs.Device.{Object}
use Rattle.gpu_alloc_types.specs.Properties.{Properties}
use Rattle.gpu_alloc_block.specs.Agreement.{Agrees}
pub use Rattle.gpu_alloc_block.specs.InHand.{AreTwo, ShareNoObject, IsBeside, AreOwned, IsSameBlock}
use Rattle.gpu_alloc_block.specs.Kept.{LeavesInHand, outside}
use Rattle.gpu_alloc_block.specs.State.{HeldObject, State, Block, span_of, IsOwned}

-- What a call that takes no block keeps: what was given to `new`, the heaps' limits, and each block that was owned.
pub record Leaves (s new : State) : Type 0 where
  pub properties : new.properties ≡ s.properties
  pub sharing : new.sharing ≡ s.sharing
  pub config : new.config ≡ s.config
  pub limits : new.heap_limits ≡ s.heap_limits
  pub owned : (b : Block) → IsOwned s b → IsOwned new b
  pub all : (bs : List Block) → AreOwned s bs → AreOwned new bs

-- the held objects are those of before, or those and the block's: at most one more
pub record HoldsWith (s : State) (b : Block) (new : State) : Type 0 where
  pub objects : (new.held ≡ s.held)
      ⊎ ((h : HeldObject) × (map.get s.held b.object ≡ None) × (new.held ≡ map.insert s.held b.object h))
  pub few : map.len new.held ≤ map.len s.held + 1

-- What a grant adds: the block's span to the live spans, and the block to those in hand, which are different from it.
pub record Adds (s new : State) (b : Block) : Type 0 where
  pub live : new.live ≡ set.insert s.live (span_of b)
  pub count : set.len new.live ≡ set.len s.live + 1
  pub held : HoldsWith s b new
  pub before : (c : Block) → IsOwned s c → AreTwo c b
  pub after : (c : Block) → IsOwned s c → AreTwo b c
  pub all : (bs : List Block) → AreOwned s bs → AreOwned new (bs ++ b ∷ [])

-- What a return removes: the block's span, and no other block that is in hand.
pub record Removes (s : State) (b : Block) (new : State) : Type 0 where
  pub properties : new.properties ≡ s.properties
  pub sharing : new.sharing ≡ s.sharing
  pub config : new.config ≡ s.config
  pub limits : new.heap_limits ≡ s.heap_limits
  pub live : new.live ≡ set.remove s.live (span_of b)
  pub count : set.len new.live + 1 ≡ set.len s.live
  pub owned : (c : Block) → IsOwned s c → span_of c ≢ span_of b → IsOwned new c
  -- among those in hand it may be the first, the last, or any other
  pub first : (cs : List Block) → AreOwned s (b ∷ cs) → AreOwned new cs
  pub last : (cs : List Block) → AreOwned s (cs ++ b ∷ []) → AreOwned new cs
  pub any : (cs ds : List Block) → AreOwned s (cs ++ b ∷ ds) → AreOwned new (cs ++ ds)

-- What was granted and returned leaves the live spans as they were: one block, or two that are returned in the order in
-- which they were granted.
pub record CancelOut : Type 0 where
  pub one : (s more end : State) (b : Block) → Adds s more b → Removes more b end → end.live ≡ s.live
  pub two : (s more most less end : State) (a b : Block) → Adds s more a → Adds more most b → Removes most a less
      → Removes less b end → end.live ≡ s.live

-- all that a device has is outside the allocator
abbrev pub IsAllOutside : State → Type 0
IsAllOutside s = (objects : ℕ → Option Object) (name : ℕ) → outside s objects name ≡ objects name

-- What follows for an allocator that holds nothing: it agrees with every device that offers these properties.
pub record HoldsNothing (p : Properties) (s : State) : Type 0 where
  pub properties : s.properties ≡ p
  pub live : set.len s.live ≡ 0
  pub held : map.len s.held ≡ 0
  pub outside : IsAllOutside s
  pub agrees : (q : Properties) → q ≡ p → (objects : ℕ → Option Object) → Agrees s q objects

-- What a cleanup leaves: nothing is held where nothing is live.
pub record LeavesNoRest (s new : State) : Type 0 where
  pub live : new.live ≡ s.live
  pub held : set.len s.live ≡ 0 → map.len new.held ≡ 0
  pub none : set.len s.live ≡ 0 → new.held ≡ map.empty
  pub outside : set.len s.live ≡ 0 → IsAllOutside new

-- On every device that agreed with the allocator before a call that does not reach it, the allocator agrees with it
-- afterwards, and blocks in hand stay so.
pub record StaysAgreed (s new : State) : Type 0 where
  pub each : (p : Properties) (objects : ℕ → Option Object) → Agrees s p objects → Agrees new p objects
  pub in_hand : (p : Properties) (objects : ℕ → Option Object) → LeavesInHand s p objects new p objects
