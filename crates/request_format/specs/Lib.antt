pub mod Bits
pub mod Request
pub mod Format
pub mod Measured
pub mod Written
pub mod Crossing
