-- The offer has the feature exactly where the device does.
use Rattle.std.proofs.Common.{sym}
use Rattle.gpu_session.proofs.Conditions.{tested_request}
use Rattle.gpu_desk.proofs.desk.Desk.request_fault.Goals as goal

pub returns : goal.returns
returns c = rw (← c.self.view_is) (sym (tested_request c.self.invariant.kept c.args.request _ (sym c.request_fault.ensures)))
