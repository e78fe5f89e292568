pub mod Chains
pub mod Codes
pub mod Device
pub mod Flags
pub mod Objects
pub mod Properties
