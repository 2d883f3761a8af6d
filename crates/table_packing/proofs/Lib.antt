pub mod Widening
pub mod Stored
pub mod Filled
pub mod Boxed
pub mod Tabled
pub mod Tiled
pub mod Packed
