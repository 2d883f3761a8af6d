pub mod Motion
pub mod Quadratic
