use Rattle.gpu_session.proofs.Totals.{run_ends}
use Rattle.gpu_session.proofs.laws.runs_end_with_nothing_held.Goals as goal

pub returns : goal.returns
returns g c = λ old new commands replies run ends. run_ends g.D.MemoryDevice.step g.D.MemoryDevice.properties g.D.MemoryDevice.objects old new commands replies ends.0 ends.1 run
