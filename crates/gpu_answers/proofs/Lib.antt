pub mod Asked
pub mod Keeping
pub mod Naming
pub mod ObjectRows
pub mod Rows
