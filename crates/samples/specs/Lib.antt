pub mod Places
pub mod History
pub mod Signals
