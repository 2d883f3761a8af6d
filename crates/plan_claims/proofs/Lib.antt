pub mod Searched
mod Rising
pub mod Root
pub mod Origin
mod Chain
mod Parts
pub mod FirstArrival
pub mod Driven
mod InTurn
pub mod Calls
mod Made
pub mod Whole
pub mod LargerBudget
