pub mod Norm
pub mod Course
