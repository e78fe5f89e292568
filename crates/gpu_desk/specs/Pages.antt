-- Which blocks share no page.
use Rattle.std.specs.Prelude.{◌≡◌, ◌≢◌, ℕ, ◌+◌, ◌/◌, ◌≤◌, ◌<◌, true, false, List, Some}
use Rattle.std.specs.FinMap as map
use Rattle.std.specs.FinMap.{FinMap}
use Rattle.std.specs.Ordering.{nat_cmp}
use Rattle.gpu_alloc.specs.Allocation.{IsInPages}
use Rattle.gpu_alloc.specs.State.{Block}
use Rattle.gpu_desk.specs.Tags.{tag_at}
use Rattle.gpu_desk.specs.declared.wish.Tag.{Tag}

-- each block for an optimal resource has its object alone, or begins at a page and has whole pages for the requested
-- bytes
abbrev pub ArePaged : FinMap nat_cmp Block → List Tag → ℕ → Type 0
ArePaged live tags granularity =
    (key : ℕ) (b : Block) → map.get live key ≡ Some b → (tag_at tags key).optimal ≡ true
    → IsInPages granularity (tag_at tags key).asked b

-- one of the first n bytes of the block lies there in its object
abbrev pub IsByteOf : Block → (n at : ℕ) → Type 0
IsByteOf b n at = (b.offset ≤ at) × (at < b.offset + n)

-- No page of one object holds a requested byte of a block for an optimal resource and any byte of a block for a linear
-- one.
abbrev pub ShareNoPage : FinMap nat_cmp Block → List Tag → ℕ → Type 0
ShareNoPage live tags granularity =
    (key other : ℕ) (optimal linear : Block) → map.get live key ≡ Some optimal → map.get live other ≡ Some linear
    → (tag_at tags key).optimal ≡ true → (tag_at tags other).optimal ≡ false → optimal.object ≡ linear.object
    → (at by : ℕ) → IsByteOf optimal (tag_at tags key).asked at → IsByteOf linear linear.size by
    → at / granularity ≢ by / granularity
