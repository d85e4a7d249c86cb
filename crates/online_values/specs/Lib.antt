pub mod Laws
pub mod Results
pub mod Sensor
