pub mod ByNumber
mod Examined
pub mod Shapes
pub mod Legs
pub mod Segment
pub mod Hints
mod Chain
mod Ways
mod Path
pub mod LonePath
pub mod Plan
pub mod Refusals
