pub mod BuddyAnswers
pub mod BuddyChunks
pub mod BuddyRanges
pub mod BuddySteps
