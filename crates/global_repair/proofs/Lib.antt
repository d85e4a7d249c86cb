pub mod Solvable
pub mod Whole
