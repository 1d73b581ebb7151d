pub mod Rings
pub mod Search
pub mod Runs
pub mod Releases
pub mod Theorems
pub mod Worked
