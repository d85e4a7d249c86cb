pub mod Answering
pub mod Change
pub mod Cycles
pub mod Greatest
pub mod Items
pub mod Lists
pub mod OneRepair
pub mod Sizes
