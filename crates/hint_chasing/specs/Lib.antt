pub mod Chase
