-- The types of the crates below that contracts of callers name.
pub use Rattle.gpu_alloc_base.specs.declared.buddy_block.Leaf
pub use Rattle.gpu_alloc_base.specs.declared.config.Config
pub use Rattle.gpu_alloc_base.specs.declared.error.AllocationError
pub use Rattle.gpu_alloc_base.specs.declared.error.MapError
pub use Rattle.gpu_alloc_base.specs.declared.free_list_block.Slot
pub use Rattle.gpu_alloc_base.specs.declared.heap.Heap
pub use Rattle.gpu_alloc_base.specs.declared.piece.Piece
pub use Rattle.gpu_alloc_base.specs.declared.region.FreeListRegion
pub use Rattle.gpu_alloc_block.specs.declared.block.Kind
pub use Rattle.gpu_alloc_block.specs.declared.block.Mapping
