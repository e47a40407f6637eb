pub mod First
pub mod Steps
pub mod Stands
pub mod Bounds
