pub mod Frames
pub mod Between
pub mod Recording
