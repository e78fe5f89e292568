pub mod Buddy
pub mod BuddyRule
pub mod BuddySound
pub mod BuddyState
pub mod BuddySteps
pub mod Codes
