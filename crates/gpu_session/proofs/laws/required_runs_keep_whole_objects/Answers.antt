use Rattle.gpu_session.proofs.WholeObjects.{run_whole}
use Rattle.gpu_session.proofs.laws.required_runs_keep_whole_objects.Goals as goal

pub returns : goal.returns
returns g c = λ old new commands replies run required whole.
    run_whole g.D.MemoryDevice.step g.D.MemoryDevice.properties g.D.MemoryDevice.objects old new commands replies required whole run
