pub mod Changes
pub mod Lines
pub mod Bytes
pub mod Receive
pub mod Rests
pub mod Wired
pub mod Laws
pub mod Receivers
