use Rattle.gpu_session.proofs.Holding.{run_holds}
use Rattle.gpu_session.proofs.laws.runs_hold_what_was_written.Goals as goal

pub returns : goal.returns
returns g c = λ old new commands replies run. run_holds g.D.MemoryDevice.step g.D.MemoryDevice.properties g.D.MemoryDevice.objects old new commands replies run
