-- Each memory type's allocator of fit chunks, as the whole allocator's state describes it.
pub mod Grains
pub mod Named
pub mod Small
