pub mod Travel
pub mod Way
pub mod Tests
