pub mod Raised
pub mod Tallying
pub mod Threes
pub mod Holds
pub mod Counting
pub mod Limits
