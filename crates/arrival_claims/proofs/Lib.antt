pub mod RealLegs
mod Table
pub mod DemandThree
