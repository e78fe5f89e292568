use Rattle.gpu_alloc.proofs.Pages.{pages_apart}
use Rattle.gpu_alloc.proofs.laws.pages_are_not_shared.Goals as goal

pub returns : goal.returns
returns c = pages_apart
