pub mod Answered
pub mod Handing
pub mod Performing
pub mod Reading
pub mod Underway
pub mod Written
