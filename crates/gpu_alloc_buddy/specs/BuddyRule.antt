-- The rule of buddies, and what it owes as that of a store of shared chunks.
use Rattle.std.specs.Prelude.{◌≡◌, ℕ, ◌+◌, ◌-◌, ◌^◌, ◌<◌, ◌≤◌, max, Option, Some, None, refl}
use Rattle.std.specs.Int.Count.{count_leading_zeros}
use Rattle.gpu_alloc_base.specs.AlignMasks.{IsAlignMask}
use Rattle.gpu_alloc_base.specs.Leaves.{leaf_cmp}
use Rattle.gpu_alloc_base.specs.declared.buddy_block.Leaf.{Leaf}
use Rattle.gpu_alloc_buddy.specs.BuddySound.{IsSoundBuddy}
use Rattle.gpu_alloc_buddy.specs.BuddyState.{BeginsBuddyChunk, Buddy, Fits, HasPlace, IsBuddyFront, IsUnusedBuddyChunk, buddy_with_chunk, buddy_with_leaf, buddy_without_leaf, bytes_of, chunk_size, space_of}
use Rattle.gpu_alloc_buddy.specs.BuddySteps.{AreFewReleases}
use Rattle.gpu_alloc_pairs.specs.Store.{BuddyStore, CountsFront, CountsSearch, HasPairRooms}
use Rattle.gpu_alloc_shared.specs.Rule.{IsLawful, Rule}

-- the exponent of the power of two that a request is rounded to: the number of binary digits of one less than what it
-- must not be below
abbrev pub order_for : Buddy → ℕ → ℕ → ℕ
order_for b size align_mask =
    64 - count_leading_zeros 64 (max (max size (align_mask + 1)) (max b.atom b.minimal) - 1)

-- the steps of a try to take a block of this size: of one in a place, or else of a search
abbrev pub Tries : Buddy → ℕ → Option (Option Leaf) → ℕ → ℕ → ℕ → ℕ → Type 0
Tries b size (Some (Some leaf)) looks now splits after = CountsFront (space_of b) leaf looks now splits after
Tries b size (Some None) looks now splits after =
    (HasPlace b size → ⊥) × (CountsSearch (space_of b) size looks now × (after ≡ splits))
Tries b size None looks now splits after = CountsSearch (space_of b) size looks now × (after ≡ splits)

-- the splits down to a block of 2^order bytes of a new chunk, which comes as its two halves
pub record Halves (order whole splits after : ℕ) : Type 0 where
  pub chunk_order : ℕ
  pub is : whole ≡ 2 ^ chunk_order
  pub longer : order < chunk_order
  pub short : chunk_order ≤ 63
  pub split : after + order + 1 ≡ splits + chunk_order

-- A request is the exponent of its block's size, a power of two. A key is always left, and each chunk is released with
-- its last block, so none later.
abbrev pub buddy_rule : Rule Buddy ℕ Leaf
buddy_rule = record {
  served = λ b. record { memory_type = b.memory_type; props = b.props };
  chunks = λ b. b.chunks;
  order = leaf_cmp;
  live = λ b. b.live;
  with_space = λ b chunks live. record b { chunks = chunks; live = live };
  key = λ leaf. leaf.chunk;
  bytes = bytes_of;
  IsSound = IsSoundBuddy;
  Serves = λ b heap size align_mask. (0 < size) × IsAlignMask align_mask;
  asked = order_for;
  Fits = λ order. Fits (2 ^ order);
  IsAsk = λ b order. order ≤ 62;
  Holds = λ b heap order. Unit {0};
  HasPlace = λ b order. HasPlace b (2 ^ order);
  IsTaken = λ b order. IsBuddyFront b (2 ^ order);
  HasNumber = λ b. Unit {0};
  chunk_size = λ b heap order. chunk_size b (2 ^ order);
  Begins = λ b order whole. BeginsBuddyChunk b (2 ^ order);
  in_new_chunk = λ b order whole leaf. buddy_with_leaf (buddy_with_chunk b leaf whole) leaf;
  ReleasedWith = λ b leaf. IsUnusedBuddyChunk (buddy_without_leaf b leaf) leaf.chunk;
  IsNext = λ b keep_last key. ⊥;
  Left = λ b keep_last found. Unit {0};
  Looks = λ b order. CountsSearch (space_of b) (2 ^ order);
  Tries = λ b order. Tries b (2 ^ order);
  Begun = λ b order. Halves order;
  Joins = λ b leaf old new. (old < new) × AreFewReleases b leaf old new;
}

pub buddy_lawful : IsLawful buddy_rule
buddy_lawful = record {
  its_chunks = λ b chunks live. refl;
  its_live = λ b chunks live. refl;
  its_type = λ b chunks live. refl;
  in_held = λ b order leaf front. (front.chunk, front.held);
  new_key = λ b s order whole leaf begins. begins.free_key;
  one_chunk = λ b order whole leaf begins. refl;
  one_block = λ b order whole leaf begins. refl;
  same_type = λ b order whole leaf. refl;
  own_object = λ b s. s.space.one_object;
  of_chunk = λ b leaf s live. let lies = s.space.inside leaf live in (lies.chunk, (lies.held, lies.object));
}

-- A store with its sizes: what is held and live, and the pairs, with the room for more.
pub record Stored : Type 0 where
  pub state : Buddy
  pub pairs : BuddyStore

-- there is room for one more chunk of the size that comes next, with a block of 2^order bytes
abbrev pub HasRooms : Stored → ℕ → Type 0
HasRooms s order = (n : ℕ) × (chunk_size s.state (2 ^ order) ≡ 2 ^ n) × HasPairRooms s.pairs order n
