pub mod Known
pub mod Short
pub mod Only
mod Left
