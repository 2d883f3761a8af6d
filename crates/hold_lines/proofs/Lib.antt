mod Digits
mod Else
mod Numbers
pub mod Line
pub mod Examples
