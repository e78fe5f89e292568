use Rattle.gpu_alloc_base.proofs.ChunkSizes.{grown_is_least, least_product_only}
use Rattle.gpu_alloc_base.proofs.laws.free_list_chunk_is_least.Goals as goal

pub returns-clause-is : goal.returns-clause-is
returns-clause-is c = grown_is_least

pub returns-clause-only : goal.returns-clause-only
returns-clause-only c = least_product_only
