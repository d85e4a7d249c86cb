pub mod Command
pub mod Ending
pub mod Faults
pub mod Note
pub mod RealEnds
