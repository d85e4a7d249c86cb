pub mod Distances
pub mod Forest
pub mod ForestWalk
pub mod Labels
pub mod Transposed
