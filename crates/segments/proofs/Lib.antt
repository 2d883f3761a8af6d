mod Walk
pub mod EarlyReturn
pub mod Safe
