pub mod Text
pub mod Place
