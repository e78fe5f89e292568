pub mod Lookups
pub mod Sound
pub mod Taken
pub mod Walk
