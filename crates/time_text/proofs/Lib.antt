pub mod Decided
pub mod Only
