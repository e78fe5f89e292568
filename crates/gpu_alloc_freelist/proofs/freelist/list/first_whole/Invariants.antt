use Rattle.std.proofs.Common.{◌<◌, ℕ}
use Rattle.gpu_alloc_freelist.specs.FreeListInside.{MayBeTaken}
use Rattle.gpu_alloc_base.specs.declared.region.FreeListRegion.{FreeListRegion}
use Rattle.gpu_alloc_freelist.proofs.freelist.list.first_whole.Given as goal

-- none so far may be taken
abbrev pub invariant-loop-index : goal.invariant-loop-index
invariant-loop-index g l = (k : ℕ) (d : FreeListRegion) → k < l.index → MayBeTaken l.chunks.held l.regions l.keep_last d k → ⊥
