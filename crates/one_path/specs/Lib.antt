pub mod Path
pub mod Laid
pub mod Asked
