pub mod Code
pub mod Writing
pub mod Upward
