-- A memory type's store of shared chunks in the whole allocator, whatever its rule.
pub mod Calls
pub mod Free
pub mod Owned
pub mod Returned
pub mod Stores
pub mod Tries
pub mod Types
