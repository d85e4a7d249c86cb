pub mod Cut
pub mod Cycles
pub mod Numbers
pub mod Pushing
pub mod Taking
pub mod Views
