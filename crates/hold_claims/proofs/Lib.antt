mod Largest
mod Means
mod Changed
mod Sums
mod Walk
mod Decided
mod Exactly
mod Fits
mod Printed
pub mod Claims
