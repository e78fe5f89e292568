pub mod Grants
pub mod Releases
pub mod Sized
