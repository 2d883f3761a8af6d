mod Stored
pub mod Bound
