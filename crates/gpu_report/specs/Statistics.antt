-- The sums of one memory type.
use Rattle.std.specs.Prelude.{◌≡◌, ℕ, List, All, Contains}
use Rattle.gpu_alloc.specs.State.{HeldObject, State}
use Rattle.gpu_desk.specs.Desk.{DeskState}
use Rattle.gpu_report.specs.DeskReport.{AreKeyed}
use Rattle.gpu_report.specs.Held.{AreHeld, part_of}
use Rattle.gpu_report.specs.Live.{AreLive}
use Rattle.gpu_report.specs.Report.{AreSums, part_told}
use Rattle.gpu_report.specs.declared.live.LiveBlock.{LiveBlock}
use Rattle.gpu_report.specs.declared.report.KindReport.{KindReport}
use Rattle.gpu_report.specs.declared.report.ObjectKind.{ObjectKind}
use Rattle.gpu_report.specs.declared.report.ObjectKind.TheVariants.{Dedicated, Imported, BuddyChunk, FreeListChunk, FitChunk}
use Rattle.gpu_report.specs.declared.statistics.Statistics.{Statistics}

-- the sums of a memory type and a kind
abbrev pub AreSumsOf : State → List (ℕ × HeldObject) → List LiveBlock → ℕ → ObjectKind → KindReport → Type 0
AreSumsOf s held live t kind k = (part_told k ≡ part_of t kind) × AreSums s held live k

-- The sums of a memory type by kind. `held` are the held objects, and `live` the live blocks, from the given blocks.
pub record AreStatistics (s : State) (blocks : List LiveBlock) (t : ℕ) (a : Statistics) : Type 0 where
  pub held : List (ℕ × HeldObject)
  pub are_held : AreHeld s held
  pub live : List LiveBlock
  pub are_live : AreLive s live
  pub given : All (Contains blocks) live
  pub dedicated : AreSumsOf s held live t Dedicated a.dedicated
  pub imported : AreSumsOf s held live t Imported a.imported
  pub buddy : AreSumsOf s held live t BuddyChunk a.buddy
  pub free_list : AreSumsOf s held live t FreeListChunk a.free_list
  pub fit : AreSumsOf s held live t FitChunk a.fit

-- the sums of a memory type of a desk, of which the blocks are those of its keys
pub record AreDeskStatistics (s : DeskState) (t : ℕ) (a : Statistics) : Type 0 where
  pub blocks : List LiveBlock
  pub keyed : AreKeyed s blocks
  pub sums : AreStatistics s.allocator blocks t a
