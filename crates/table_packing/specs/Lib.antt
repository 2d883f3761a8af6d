pub mod Filling
pub mod Packing
