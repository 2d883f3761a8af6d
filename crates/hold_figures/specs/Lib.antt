pub mod Crews
pub mod Words
