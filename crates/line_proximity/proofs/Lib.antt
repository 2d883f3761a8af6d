pub mod StationaryGiven
pub mod OnDomain
