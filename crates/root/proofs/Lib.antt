mod WholeRoot
mod NearestWhole
mod Trials
mod Cut
pub mod Units
pub mod Neighbours
pub mod Only
mod Midpoints
mod Spelling
mod Patterns
pub mod Meets
mod BitTests
pub mod Nearness
pub mod Given
pub mod Size
pub mod Examples
