pub mod Year
pub mod Parts
pub mod Printed
