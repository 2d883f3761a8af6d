pub mod Answer
pub mod Stack
pub mod Recursive
pub mod Safe
pub mod Links
pub mod Handed
