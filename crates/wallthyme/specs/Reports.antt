-- What the reports of all that is held contain.
use Rattle.std.specs.Prelude.{◌≡◌, ℕ, ◌+◌, ◌*◌, ◌^◌, List}
use Rattle.gpu_desk.specs.Desk.{DeskState}
use Rattle.gpu_report.specs.DeskReport.{IsDeskReport, user_of}
use Rattle.gpu_report.specs.Statistics.{AreDeskStatistics}
use Rattle.gpu_report.specs.Text.{report_text}
use Rattle.gpu_report.specs.Writing.{IsTextWritten}
use Rattle.gpu_report.specs.declared.report.KindReport.{KindReport}
use Rattle.gpu_report.specs.declared.report.Report.{Report}
use Rattle.gpu_report.specs.declared.statistics.Statistics.{Statistics}
use Rattle.wallthyme.specs.declared.layout.KindStatistics.{KindStatistics}
use Rattle.wallthyme.specs.declared.layout.TypeStatistics.{TypeStatistics}

-- the sums of a kind, as C gets them
pub record AreKindSums (k : KindReport) (c : KindStatistics) : Type 0 where
  pub objects : c.objects ≡ k.objects
  pub blocks : c.blocks ≡ k.live_blocks
  pub live : c.live_bytes + 2 ^ 64 * c.live_bytes_high ≡ k.live_bytes
  pub asked : c.asked_bytes + 2 ^ 64 * c.asked_bytes_high ≡ k.asked_bytes
  pub free : c.free_bytes + 2 ^ 64 * c.free_bytes_high ≡ k.free_bytes
  pub largest : c.largest_free ≡ k.largest_free
  pub scattered : c.scattered ≡ k.scattered

-- the sums of a memory type
pub record AreTypeSums (s : Statistics) (c : TypeStatistics) : Type 0 where
  pub dedicated : AreKindSums s.dedicated c.dedicated
  pub imported : AreKindSums s.imported c.imported
  pub buddy : AreKindSums s.buddy c.buddy
  pub free_list : AreKindSums s.free_list c.free_list
  pub fit : AreKindSums s.fit c.fit

-- the statistics are those of what the desk holds of a memory type
abbrev pub SumsUp : DeskState → (memory_type : ℕ) → TypeStatistics → Type 0
SumsUp s t told = (a : Statistics) × AreDeskStatistics s t a × AreTypeSums a told

-- a report of the desk was written, as much of it as there was room for, and the number is its length
unfoldable pub Reports : DeskState → (before now : List ℕ) → ℕ → Type 0
Reports s before now at =
    (r : Report) × IsDeskReport s r × IsTextWritten (report_text (user_of s) s.allocator.properties.memory_types r) before now at
