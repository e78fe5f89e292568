-- Blocks for requests, one for each.
use Rattle.std.specs.Prelude.{◌≡◌, ℕ, ◌+◌, ◌%◌, ◌≤◌, List, [], ◌∷◌, ◌++◌, take}
use Rattle.gpu_alloc_block.specs.State.{Block}
use Rattle.gpu_alloc.specs.declared.request.Request.{Request}

-- the block has the requested bytes, from a place that is aligned as requested
pub record Serves (r : Request) (b : Block) : Type 0 where
  pub enough : r.size ≤ b.size
  pub aligned : b.offset % (r.align_mask + 1) ≡ 0

-- each block serves the request of its place, and there are as many
abbrev pub AllServe : List Request → List Block → Type 0
AllServe [] [] = Unit {0}
AllServe (r ∷ rs) (b ∷ bs) = Serves r b × AllServe rs bs
AllServe _ _ = ⊥

-- Blocks were added that serve the first `count` requests.
pub record ServesFirst (requests : List Request) (count : ℕ) (old new : List Block) : Type 0 where
  pub more : List Block
  pub grown : new ≡ old ++ more
  pub served : AllServe (take count requests) more
