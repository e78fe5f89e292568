-- Each memory type's buddy allocator, as the whole allocator's state describes it.
pub mod Named
