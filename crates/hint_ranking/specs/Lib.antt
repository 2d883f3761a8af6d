pub mod Ranked
pub mod Hints
