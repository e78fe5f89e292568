-- What a report of a session contains.
use Rattle.std.specs.Prelude.{◌≡◌, List, Contains}
use Rattle.gpu_alloc.specs.State.{span_of}
use Rattle.gpu_session.specs.Books.{Books, OfBlock}
use Rattle.gpu_session.specs.declared.session.listing.NamedSpan.{NamedSpan}
use Rattle.gpu_report.specs.Live.{live_block_span}
use Rattle.gpu_report.specs.Report.{IsReport}
use Rattle.gpu_report.specs.declared.live.LiveBlock.{LiveBlock}
use Rattle.gpu_report.specs.declared.report.Report.{Report}

-- a session's row as a block, whose size counts as asked for: a session keeps no requests
abbrev pub block_of : NamedSpan → LiveBlock
block_of row = record { name = row.name; object = row.object; offset = row.offset; size = row.size; asked = row.size }

-- a report of its allocator, in which each live block has its name in the session, and its size counts as asked for
pub record IsSessionReport (s : Books) (r : Report) : Type 0 where
  pub blocks : List LiveBlock
  pub named : (b : LiveBlock) → Contains blocks b → OfBlock s b.name (λ x. span_of x ≡ live_block_span b)
  pub asked : (b : LiveBlock) → Contains blocks b → b.asked ≡ b.size
  pub report : IsReport s.allocator blocks r
