use Rattle.gpu_alloc.proofs.Granted.{alone_told}
use Rattle.gpu_alloc.proofs.laws.own_objects_are_where_served_alone.Goals as goal

pub returns : goal.returns
returns c = alone_told
