pub mod Costs
pub mod Counts
pub mod Least
pub mod Ranks
