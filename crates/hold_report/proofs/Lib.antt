pub mod Lowered
pub mod Told
pub mod Sizes
pub mod Examples
