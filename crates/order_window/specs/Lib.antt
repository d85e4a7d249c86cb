pub mod Lines
pub mod Orders
pub mod Selection
pub mod Window
