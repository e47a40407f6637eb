pub mod Bits
pub mod Runs
pub mod Calls
pub mod Recordings
