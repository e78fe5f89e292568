-- What a report of a desk contains.
use Rattle.std.specs.Prelude.{◌≡◌, ◌↔◌, ℕ, List, Contains, is_some, cond}
use Rattle.std.specs.FinMap as map
use Rattle.gpu_alloc.specs.State.{span_of}
use Rattle.gpu_desk.specs.Desk.{DeskState, OfKey, tag_of}
use Rattle.gpu_report.specs.Live.{live_block_span}
use Rattle.gpu_report.specs.Report.{IsReport}
use Rattle.gpu_report.specs.declared.live.LiveBlock.{LiveBlock}
use Rattle.gpu_report.specs.declared.report.Report.{Report}

-- the block's name is the key of a live block that lies there, with its tag's number of bytes asked for
pub record IsKeyed (s : DeskState) (b : LiveBlock) : Type 0 where
  pub lies : OfKey s b.name (λ x. span_of x ≡ live_block_span b)
  pub asked : b.asked ≡ (tag_of s b.name).asked

-- these are the live blocks, under their keys
abbrev pub AreKeyed : DeskState → List LiveBlock → Type 0
AreKeyed s blocks = (b : LiveBlock) → Contains blocks b ↔ IsKeyed s b

-- a report of its allocator, in which each live block has its key as its name
pub record IsDeskReport (s : DeskState) (r : Report) : Type 0 where
  pub blocks : List LiveBlock
  pub keyed : AreKeyed s blocks
  pub report : IsReport s.allocator blocks r

-- the caller's own value of the block of a key, 0 where no live block has the key
abbrev pub user_of : DeskState → ℕ → ℕ
user_of s key = cond (is_some (map.get s.blocks.live key)) (tag_of s key).user 0
