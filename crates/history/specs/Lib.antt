pub mod Histories
pub mod Points
