pub mod Walking
pub mod Elements
pub mod Counting
pub mod Legs
pub mod Shaped
pub mod Accepted
