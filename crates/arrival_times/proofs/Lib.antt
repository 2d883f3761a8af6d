mod Sweeping
mod Keeping
mod Wiping
mod Telling
pub mod Few
mod Room
pub mod Words
