pub mod Causes
pub mod Pins
pub mod Rows
pub mod Held
pub mod Settings
pub mod Questions
