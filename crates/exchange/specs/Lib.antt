pub mod Bounds
pub mod Checks
pub mod Faults
pub mod Rows
