pub mod Claims
pub mod Cycle
pub mod Judges
pub mod Laws
pub mod Marks
pub mod Repair
pub mod Tally
