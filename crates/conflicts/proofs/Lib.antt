pub mod Conflicts
pub mod ShortLegs
