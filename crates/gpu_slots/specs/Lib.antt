pub mod Lends
pub mod Places
pub mod SlotMap
