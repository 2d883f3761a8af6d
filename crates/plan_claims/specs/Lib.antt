pub mod Origin
pub mod Driven
pub mod Whole
