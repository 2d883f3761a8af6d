pub mod OnDomain
