pub mod LocalCost
pub mod Median
