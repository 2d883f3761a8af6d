mod Counts
pub mod Chosen
