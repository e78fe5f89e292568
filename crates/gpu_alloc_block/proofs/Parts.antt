-- Several parts as one.
pub mod ByName
pub mod Entries
pub mod Steps
pub mod Stores
pub mod Unions
