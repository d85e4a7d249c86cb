pub mod Layouts
pub mod Orders
pub mod Steps
pub mod Trees
