-- What holds of a buddy allocator between calls.
use Rattle.gpu_alloc_base.specs.FreeSpace.{IsPowerUpTo}
use Rattle.gpu_alloc_buddy.specs.BuddyState.{Buddy, space_of}
use Rattle.gpu_alloc_pairs.specs.Space.{IsSoundBuddySpace}

-- chunks have objects of their own, with a live block each, and live blocks are apart; the sizes are powers of two
pub record IsSoundBuddy (b : Buddy) : Type 0 where
  pub space : IsSoundBuddySpace (space_of b)
  pub next_chunk : IsPowerUpTo 63 b.next_chunk
  pub minimal : IsPowerUpTo 63 b.minimal
  pub atom : IsPowerUpTo 62 b.atom
