pub mod Putting
pub mod Digits
pub mod Telling
pub mod NoSecond
pub mod Reading
pub mod Sizes
