pub mod Ticks
pub mod Bench
