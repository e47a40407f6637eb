pub mod Grammar
pub mod Steps
pub mod Said
pub mod Commands
