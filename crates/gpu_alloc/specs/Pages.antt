-- Pages of a granularity, which an image that is not linear may not share with a buffer or a linear image.
use Rattle.std.specs.Prelude.{◌≡◌, ◌≢◌, ℕ, ◌+◌, ◌/◌, ◌<◌}
use Rattle.gpu_alloc.specs.Allocation.{IsInPages}
use Rattle.gpu_alloc.specs.Owned.{AreTwo}
use Rattle.gpu_alloc.specs.Request.{IsGranularity}
use Rattle.gpu_alloc_block.specs.State.{Block}

-- no page of one object holds one of the first `size` bytes of a block and a byte of another block
abbrev pub SharesNoPage : ℕ → ℕ → Block → Block → Type 0
SharesNoPage granularity size b c =
    (i j : ℕ) → i < size → j < c.size → b.object ≡ c.object
    → (b.offset + i) / granularity ≢ (c.offset + j) / granularity

-- A block that begins at a page and has whole pages for these bytes shares no page with any other block.
abbrev pub PagesApart : Type 0
PagesApart =
    (granularity size : ℕ) (b c : Block) → IsGranularity granularity → IsInPages granularity size b → AreTwo b c
    → SharesNoPage granularity size b c
