pub mod Rows
pub mod Asked
pub mod Roomed
pub mod Shown
