pub mod Keeping
pub mod Keys
pub mod Least
pub mod Middle
pub mod Repair
pub mod Steps
