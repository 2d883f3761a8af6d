mod Walking
mod Found
mod Packed
pub mod Reaches
pub mod Graded
pub mod Answered
