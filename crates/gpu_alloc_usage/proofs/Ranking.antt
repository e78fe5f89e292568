-- How memory types are ranked, key by key.
pub mod Candidates
pub mod Masks
pub mod Order
pub mod Rising
pub mod Steps
