use Rattle.gpu_alloc.proofs.Imports.{as_far, less_far, which_exactly}
use Rattle.gpu_alloc.proofs.laws.which_objects_may_be_imported.Goals as goal

pub returns : goal.returns
returns c = record { exactly = which_exactly; as_far = as_far; less_far = less_far }
