pub mod Hint
pub mod Hints
pub mod Words
pub mod Adding
pub mod Numbered
