pub mod Asking
pub mod Device
pub mod DeviceLaws
pub mod DeviceState
pub mod Held
pub mod Objects
