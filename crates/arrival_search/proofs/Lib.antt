mod Instants
pub mod Lists
mod Legs
mod Walks
mod Remaining
mod Sweeping
mod Candidates
mod Turns
mod Runs
mod Listing
mod Refusals
pub mod Theorems
pub mod Going
