pub mod Within
pub mod Vectors
pub mod Distance
pub mod Told
pub mod Fine
