pub mod Watched
pub mod Table
pub mod Track
