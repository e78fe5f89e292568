pub mod Bytes
pub mod Setup
