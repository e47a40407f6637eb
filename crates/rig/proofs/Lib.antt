pub mod Bus
pub mod Waits
