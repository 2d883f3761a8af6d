pub mod Reading
pub mod Added
pub mod Sound
pub mod Words
