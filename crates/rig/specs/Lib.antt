pub mod Refusals
pub mod Meaning
pub mod Direct
pub mod Patience
pub mod Tries
