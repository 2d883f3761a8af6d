pub mod Conflict
pub mod Asked
