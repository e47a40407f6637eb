pub mod Report
pub mod Readouts
pub mod Reading
pub mod Laws
pub mod Compare
