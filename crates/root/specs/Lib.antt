pub mod Digits
pub mod Root
pub mod Trial
