pub mod Cycles
pub mod Solver
