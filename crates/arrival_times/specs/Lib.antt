pub mod Listing
pub mod Asked
pub mod Words
