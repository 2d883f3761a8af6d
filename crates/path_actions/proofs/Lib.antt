pub mod Rowed
pub mod Known
pub mod Counted
pub mod Left
pub mod Only
mod Built
