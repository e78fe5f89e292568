use Rattle.gpu_session.proofs.Holding.{next_tells, run_tells}
use Rattle.gpu_session.proofs.laws.reads_tell_what_was_written.Goals as goal

pub returns-clause-along : goal.returns-clause-along
returns-clause-along g c = λ old new commands replies run. run_tells g.D.MemoryDevice.step g.D.MemoryDevice.properties g.D.MemoryDevice.objects old new commands replies run

pub returns-clause-next : goal.returns-clause-next
returns-clause-next g c = λ old mid commands replies run command reply new s. next_tells g.D.MemoryDevice.step g.D.MemoryDevice.properties g.D.MemoryDevice.objects old mid commands replies run new command reply s
