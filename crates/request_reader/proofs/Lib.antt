pub mod Counts
pub mod Placed
pub mod Planned
pub mod TableOf
pub mod Laid
pub mod Counted
