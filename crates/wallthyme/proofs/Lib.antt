pub mod AsBox
pub mod Reading
pub mod Rest
pub mod Same
pub mod Unasked
pub mod Unread
pub mod Walks
