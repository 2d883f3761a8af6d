pub mod Segment
pub mod Asked
pub mod Early
