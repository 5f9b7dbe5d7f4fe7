-- Laws on readings.
pub mod Readings
pub mod Told
pub mod Sizes
pub mod Order
pub mod Compare
pub mod Stages
