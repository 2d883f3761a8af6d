pub mod Before
mod Those
mod Sorted
mod Inserted
pub mod Theorems
mod Places
pub mod OneByOne
