pub mod Stationary
pub mod NearLine
pub mod Asked
