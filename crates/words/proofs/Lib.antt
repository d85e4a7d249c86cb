pub mod Answers
pub mod InnerProducts
pub mod Lists
pub mod Parts
pub mod Products
pub mod Sums
pub mod Texts
