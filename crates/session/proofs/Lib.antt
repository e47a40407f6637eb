mod Feeds
pub mod Written
pub mod SoFar
pub mod Whole
pub mod One
mod Limits
