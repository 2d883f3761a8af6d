pub mod Table
pub mod Walked
pub mod Obstacle
pub mod Lent
pub mod Examined
