pub mod Room
pub mod Letters
pub mod Numerals
pub mod Reading
