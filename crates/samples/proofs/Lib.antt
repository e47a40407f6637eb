pub mod Calls
pub mod Rounds
pub mod Rings
pub mod Bounds
