pub mod Calendar
pub mod Ticks
pub mod Trimmed
