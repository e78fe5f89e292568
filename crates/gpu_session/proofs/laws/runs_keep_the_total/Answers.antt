use Rattle.gpu_session.proofs.Totals.{run_total}
use Rattle.gpu_session.proofs.laws.runs_keep_the_total.Goals as goal

pub returns : goal.returns
returns g c = λ old new commands replies run leaves. run_total g.D.MemoryDevice.step g.D.MemoryDevice.properties g.D.MemoryDevice.objects old new commands replies leaves run
