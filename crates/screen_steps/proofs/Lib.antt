pub mod AfterFile
pub mod BothFiles
pub mod Reading
