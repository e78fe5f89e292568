-- Lists of what a store holds.
use Rattle.std.specs.Prelude.{◌≡◌, ℕ, ◌^◌, ◌<◌, ◌++◌, List, Some}
use Rattle.std.specs.FinSet as set
use Rattle.std.specs.List.{IsDistinct}
use Rattle.std.specs.Ordering.{eq_by_cmp}
use Rattle.gpu_alloc_base.specs.Accounts.{HeldChunks}
use Rattle.slab.specs.Slab.{Slab, entries, get}
use Rattle.gpu_alloc_base.specs.SlabViews.{by_key}
use Rattle.gpu_alloc_base.specs.Leaves.{leaf_cmp}
use Rattle.gpu_alloc_base.specs.declared.buddy_block.Leaf.{Leaf}
use Rattle.gpu_alloc_pairs.specs.declared.pairs.Chunk.{Chunk}

-- these are the held chunks, each once, with their keys
pub record ListsChunks {M : Type 0} (object : M → ℕ) (held : HeldChunks) (listed : List (ℕ × Chunk M)) : Type 0 where
  pub rows : Slab (Chunk M)
  pub are : listed ≡ entries rows
  pub exact : held ≡ by_key (λ c. record { object = object c.memory; size = 2 ^ c.order }) rows
  pub short : (key : ℕ) (c : Chunk M) → get rows key ≡ Some c → c.order < 64

-- a list has grown by the live blocks, each once
pub record AddsLeaves (live : set.FinSet leaf_cmp) (old new : List Leaf) : Type 0 where
  pub own : List Leaf
  pub added : new ≡ old ++ own
  pub exact : set.from_list own ≡ live
  pub once : IsDistinct (eq_by_cmp leaf_cmp) own
