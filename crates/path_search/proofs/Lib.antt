pub mod Links
pub mod Steps
mod Turns
pub mod Agree
pub mod Pops
mod Growing
pub mod Budget
pub mod Sound
pub mod Examples
