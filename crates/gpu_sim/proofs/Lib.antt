pub mod Asked
pub mod Copies
pub mod NumberedEntries
pub mod SimNames
pub mod SimSound
