-- What a session knows: its allocator's state, its live blocks by name, and its device.
use Rattle.std.specs.Prelude.{◌≡◌, ℕ, Some, refl}
use Rattle.std.specs.Coded.{Coded, code_by, coded×, coded_ℕ}
use Rattle.std.specs.FinMap as map
use Rattle.std.specs.Ordering.{nat_cmp}
use Rattle.gpu_alloc.specs.State.{Block, State}
use Rattle.gpu_alloc.specs.Codes.{block_code, state_code}

-- the allocator's state and the live blocks by name
pub record Books : Type 0 where
  pub allocator : State
  pub blocks : map.FinMap nat_cmp Block

-- these and the device
pub record SessionState (D : Type 0) : Type 0 where
  pub books : Books
  pub device : D

-- the name has a block, and the block has the property
abbrev pub OfBlock : Books → ℕ → (Block → Type 0) → Type 0
OfBlock s name P = (b : Block) × (map.get s.blocks name ≡ Some b) × P b

-- the name has this block from now on
abbrev pub with_block : Books → ℕ → Block → Books
with_block s name b = record s { blocks = map.insert s.blocks name b }

-- How contracts see these.

abbrev pub books_code : Coded Books
books_code =
    code_by (State × map.FinMap nat_cmp Block) (coded× state_code (map.code coded_ℕ block_code))
    (λ b. (b.allocator, b.blocks)) (λ c. record { allocator = c.0; blocks = c.1 }) (λ _. refl)

abbrev pub session_code : {D : Type 0} → Coded D → Coded (SessionState D)
session_code {D} d =
    code_by (Books × D) (coded× books_code d) (λ s. (s.books, s.device)) (λ c. record { books = c.0; device = c.1 })
    (λ _. refl)
