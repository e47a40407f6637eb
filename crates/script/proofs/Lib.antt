pub mod Runs
pub mod Fronts
pub mod Columns
pub mod Steps
pub mod Lines
pub mod Values
pub mod Opening
pub mod Stands
