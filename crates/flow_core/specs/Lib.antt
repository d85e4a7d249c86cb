pub mod Layout
pub mod Laws
pub mod Solving
pub mod State
pub mod Stored
pub mod Views
