pub mod Comparison
pub mod Lines
pub mod Readings
pub mod RepairLines
pub mod Repairs
pub mod Report
pub mod Tallies
