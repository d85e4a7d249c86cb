pub mod Fits
pub mod KeyByKey
pub mod Known
pub mod Meanings
pub mod OneTable
pub mod OneValue
pub mod Products
