pub mod Faults
pub mod Outcomes
pub mod Told
pub mod Answering
pub mod Booting
