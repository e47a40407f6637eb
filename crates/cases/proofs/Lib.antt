pub mod Steps
pub mod Good
pub mod Bay
pub mod Stops
pub mod Apart
