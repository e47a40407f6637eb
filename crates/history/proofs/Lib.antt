pub mod Reached
pub mod Points
