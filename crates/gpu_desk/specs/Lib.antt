pub mod Calls
pub mod Desk
pub mod Names
pub mod Pages
pub mod Tags
pub mod Walk
pub mod Wishes
