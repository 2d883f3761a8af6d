mod Words
pub mod Places
pub mod Calls
pub mod Turns
