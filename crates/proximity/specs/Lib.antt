pub mod Range
pub mod Proximity
pub mod Asked
