pub mod Frames
pub mod Resources
pub mod Staging
pub mod Textures
