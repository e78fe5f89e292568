-- What was written is the report that was made.
use Rattle.wallthyme.specs.Reports.{Reports}
use Rattle.wallthyme.proofs.report.written.Goals as goal

pub returns-clause-told : goal.returns-clause-told
unfolding Reports
returns-clause-told c = (c.in-Ok.report, c.in-Ok.ensures.report, c.write_report.ensures)
