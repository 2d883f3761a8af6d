pub mod Contour
pub mod Ranking
pub mod Asked
