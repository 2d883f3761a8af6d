mod Printed
pub mod Marked
