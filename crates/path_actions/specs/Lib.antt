pub mod Action
pub mod Built
pub mod Laid
