pub mod Floor
pub mod Worked
