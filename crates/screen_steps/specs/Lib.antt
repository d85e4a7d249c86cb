pub mod Answer
pub mod Files
pub mod Performance
pub mod Step
