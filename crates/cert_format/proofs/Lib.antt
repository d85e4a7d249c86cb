pub mod Decided
pub mod Digits
pub mod Drafts
mod Examples
pub mod Last
pub mod Lengths
pub mod Lines
pub mod Members
pub mod Numbers
pub mod OneAnswer
pub mod Pushed
pub mod Refusals
pub mod Sets
pub mod Texts
pub mod Words
