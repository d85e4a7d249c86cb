pub mod Entries
pub mod Keys
pub mod Known
pub mod Seen
pub mod Table
pub mod Values
pub mod Within
pub mod Words
