pub mod Domain
pub mod Asked
pub mod Beside
