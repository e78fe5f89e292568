pub mod Codes
pub mod Fit
pub mod FitRule
pub mod FitSound
pub mod FitState
