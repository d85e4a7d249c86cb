pub mod Flow
pub mod Reach
pub mod Saturation
pub mod Search
pub mod Searching
pub mod Solver
pub mod Steps
