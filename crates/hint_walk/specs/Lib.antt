pub mod LegHints
pub mod Walk
