pub mod Parts
pub mod Crossing
pub mod Standing
pub mod Oncoming
