mod Walking
pub mod Sound
