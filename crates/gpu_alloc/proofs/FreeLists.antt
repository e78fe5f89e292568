-- Each memory type's free list, as the whole allocator's state describes it.
pub mod Gone
pub mod Named
