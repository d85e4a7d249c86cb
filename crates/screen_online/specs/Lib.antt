pub mod Online
pub mod Steps
