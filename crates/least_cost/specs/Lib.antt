pub mod Answer
pub mod Cycle
pub mod Problems
pub mod Repair
