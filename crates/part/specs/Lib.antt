pub mod Monitors
pub mod Model
pub mod Lending
pub mod Shown
pub mod Channel
pub mod Tick
pub mod Events
pub mod Runs
